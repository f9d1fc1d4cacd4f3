-- What a maximal biclique of a grid is, and that the crews are the maximal bicliques. Assumes nothing.
use Rattle.std.specs.Prelude.{◌≡◌, ℕ, ◌^◌, ◌<◌, true, Decides}
use Rattle.words.specs.Bits.{bit}
use Rattle.tables.specs.Grid.{Grid, Proper, turned}
use Rattle.tables.specs.Crews.{is_crew}

-- member i is free in every slot of word y
abbrev pub HasAll : Grid → ℕ → ℕ → Type 0
HasAll g y i = (j : ℕ) → bit y j ≡ true → g.marked i j ≡ true

-- members x and slots y, neither empty: every member of x is free in every slot of y, and nobody and nothing can be added
pub record MaximalBiclique (g : Grid) (x y : ℕ) : Type 0 where
  pub some_member : 0 < x
  pub members_only : x < 2 ^ g.members
  pub some_slot : 0 < y
  pub slots_only : y < 2 ^ g.slots
  pub free : (i j : ℕ) → bit x i ≡ true → bit y j ≡ true → g.marked i j ≡ true
  pub no_more_members : (i : ℕ) → i < g.members → HasAll g y i → bit x i ≡ true
  pub no_more_slots : (j : ℕ) → j < g.slots → HasAll (turned g) x j → bit y j ≡ true

-- the crews of a grid are its maximal bicliques
abbrev pub CrewsAreMaximalBicliques : Type 0
CrewsAreMaximalBicliques = (g : Grid) → Proper g → (x y : ℕ) → Decides (is_crew g x y) (MaximalBiclique g x y)
