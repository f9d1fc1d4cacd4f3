-- What the bit roster keeps true of its words besides their lying inside the table: the member word of each slot and the count of free places.
-- Assumes nothing.
use Rattle.std.specs.Prelude.{◌≡◌, ℕ, ◌+◌, ◌*◌, List}
use Rattle.tables.specs.Filed.{held}
use Rattle.rosters.specs.Marks.{marks}

-- the words of the slots hold the same pairs as those of the members
abbrev pub Mirrored : List ℕ → List ℕ → Type 0
Mirrored rows columns = (i j : ℕ) → held columns j i ≡ held rows i j

-- every pair is either marked or a free place
abbrev pub Counted : ℕ → ℕ → List ℕ → ℕ → Type 0
Counted n m rows free = free + marks n m (held rows) ≡ n * m
