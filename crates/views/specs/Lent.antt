-- What words that are lent to a table mean as a grid. Assumes nothing.
use Rattle.std.specs.Prelude.{ℕ, ◌&&◌, List, nat_lt}
use Rattle.tables.specs.Filed.{held}
use Rattle.tables.specs.Grid.{Grid}

-- n members and m slots, with a word for each member: a missing word is 0, and further words and numbers count for nothing
abbrev pub lent_grid : ℕ → ℕ → List ℕ → Grid
lent_grid n m words = record { members = n; slots = m; marked = λ i j. (nat_lt i n && nat_lt j m) && held words i j }
