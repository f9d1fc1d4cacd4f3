-- A word for each member, as a list. Assumes nothing.
use Rattle.std.specs.Prelude.{◌≡◌, ℕ, ◌<◌, Bool, true, List, slice_index}
use Rattle.words.specs.Bits.{bit}

-- whether the words of the members have pair (i, j) marked
abbrev pub held : List ℕ → ℕ → ℕ → Bool
held rows i j = bit (slice_index rows i) j

-- no mark lies outside n members and m slots
abbrev pub Inside : ℕ → ℕ → List ℕ → Type 0
Inside n m rows = (i j : ℕ) → held rows i j ≡ true → (i < n) × (j < m)
