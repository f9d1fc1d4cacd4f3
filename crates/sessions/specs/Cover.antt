-- What cover answers. Assumes nothing.
use Rattle.std.specs.Prelude.{◌≡◌, ℕ, true, false, cond, List, Some, None, Ok, Err, Option, Result, nat_lt}
use Rattle.std.specs.Option.{option_map}
use Rattle.std.specs.List.{ContainsAt}
use Rattle.tables.specs.Grid.{Grid}
use Rattle.tables.specs.Sides.{sides}
use Rattle.tables.specs.declared.crew.Crew.{Crew}
use Rattle.finders.specs.Found.{covers, covering}
use Rattle.tables.specs.declared.places.PlaceRefusal.{PlaceRefusal}
use Rattle.tables.specs.declared.places.PlaceRefusal.TheVariants.{NoMember, NoSlot}

-- the crew that was given by its words, or why none was asked for
abbrev pub told_cover : Result (Option Crew) PlaceRefusal → Result (Option (ℕ × ℕ)) PlaceRefusal
told_cover (Ok o) = Ok (option_map sides o)
told_cover (Err e) = Err e

-- the first found crew that has member i and slot j; refused where i is no member, then where j is no slot
abbrev pub cover_answer : Grid → List (ℕ × ℕ) → ℕ → ℕ → Result (Option (ℕ × ℕ)) PlaceRefusal
cover_answer g l i j = cond (nat_lt i g.members) (cond (nat_lt j g.slots) (Ok (covering i j l)) (Err NoSlot)) (Err NoMember)

-- a crew that is given was found and has member i and slot j; where none is given, no found crew has them
abbrev pub GivesCover : List (ℕ × ℕ) → ℕ → ℕ → Result (Option (ℕ × ℕ)) PlaceRefusal → Type 0
GivesCover l i j (Ok (Some c)) = ContainsAt l c × (covers i j c ≡ true)
GivesCover l i j (Ok None) = (c : ℕ × ℕ) → ContainsAt l c → covers i j c ≡ false
GivesCover l i j (Err e) = Unit {0}
