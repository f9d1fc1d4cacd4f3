-- What one asking after another gives of a list, and what it comes to for the crews of a grid. Assumes nothing.
use Rattle.std.specs.Prelude.{◌≡◌, ℕ, zero, suc, ◌<◌, ◌≤◌, true, List, [], ◌∷◌, length, Some, None, Option, slice_index_or}
use Rattle.std.specs.List.{ContainsAt}
use Rattle.tables.specs.Crews.{crews, is_crew}
use Rattle.tables.specs.Firsts.{first, rest}
use Rattle.tables.specs.Grid.{Grid}

-- what k askings in turn give of a list: its entries from the first on, and then none
abbrev pub in_turn : {A : Type 0} → ℕ → List A → List (Option A)
in_turn zero l = []
in_turn (suc k) l = first l ∷ in_turn k (rest l)

-- every crew of g stands in its place of the answers where these are enough, and past the crews there is none
pub record ReachesEachCrew (g : Grid) (answers : List (Option (ℕ × ℕ))) : Type 0 where
  pub each : (k : ℕ) (d : ℕ × ℕ) → k < length answers → k < length (crews g) → slice_index_or answers k None ≡ Some (slice_index_or (crews g) k d)
  pub then_none : (k : ℕ) → k < length answers → length (crews g) ≤ k → slice_index_or answers k None ≡ None
  pub all_given : length (crews g) ≤ length answers → (x y : ℕ) → is_crew g x y ≡ true → ContainsAt answers (Some (x, y))
