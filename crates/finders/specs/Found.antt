-- What is asked of a list of crews. Assumes nothing.
use Rattle.std.specs.Prelude.{ℕ, zero, suc, Bool, false, ◌&&◌, ◌||◌, List, [], ◌∷◌, Some, None, Option, ◌==◌, ◌≢◌}
use Rattle.std.specs.List.{AllPairs}
use Rattle.words.specs.Bits.{bit}
use Rattle.tables.specs.Crews.{kept}
use Rattle.tables.specs.Firsts.{first}

-- crew number k of a list, counted from 0, or none
abbrev pub number : {A : Type 0} → List A → ℕ → Option A
number [] k = None
number (c ∷ cs) zero = Some c
number (c ∷ cs) (suc k) = number cs k

-- whether a crew of the list has the members x
abbrev pub has_members : ℕ → List (ℕ × ℕ) → Bool
has_members x [] = false
has_members x (c ∷ cs) = c.0 == x || has_members x cs

-- no two crews of the list have the same members
abbrev pub DifferentMembers : List (ℕ × ℕ) → Type 0
DifferentMembers l = AllPairs (λ c d. c.0 ≢ d.0) l

-- whether a crew has member i and slot j
abbrev pub covers : ℕ → ℕ → ℕ × ℕ → Bool
covers i j c = bit c.0 i && bit c.1 j

-- the first crew of the list that has member i and slot j, or none
unfoldable pub covering : ℕ → ℕ → List (ℕ × ℕ) → Option (ℕ × ℕ)
covering i j l = first (kept (covers i j) l)
