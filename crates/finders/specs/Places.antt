-- What the places of a found list hold. Assumes nothing.
use Rattle.std.specs.Prelude.{◌≡◌, ℕ, ◌<◌, ◌≤◌, List, length, map, take, is_some, Some, None, Option, ◌≢◌, nat_lt, slice_index_or}
use Rattle.tables.specs.Sides.{sides}
use Rattle.tables.specs.declared.crew.Crew.{Crew}

-- the two words of the crew at a place; 0 and 0 where the place is free
abbrev pub words_at : Option Crew → ℕ × ℕ
words_at None = (0, 0)
words_at (Some c) = sides c

-- the words of the crews in the first n places
unfoldable pub front_crews : List (Option Crew) → ℕ → List (ℕ × ℕ)
front_crews places n = map words_at (take n places)

-- the first n places hold crews, and the others are free
abbrev pub Filled : List (Option Crew) → ℕ → Type 0
Filled places n = (k : ℕ) → is_some (slice_index_or places k None) ≡ nat_lt k n

-- no two of the first n places hold crews with the same members
abbrev pub Apart : List (Option Crew) → ℕ → Type 0
Apart places n = (i j : ℕ) → i < j → j < n → (words_at (slice_index_or places i None)).0 ≢ (words_at (slice_index_or places j None)).0

-- how the places of a found list stand, of which n are used
pub record Places (places : List (Option Crew)) (n : ℕ) : Type 0 where
  pub places_count : length places ≡ 512
  pub fits : n ≤ 512
  pub filled : Filled places n
  pub apart : Apart places n
