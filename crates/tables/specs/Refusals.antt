-- The number of each refusal of a size, of a place and of a roster. Assumes nothing.
use Rattle.std.specs.Prelude.{ℕ}
use Rattle.tables.specs.declared.refusals.SizeRefusal.{SizeRefusal}
use Rattle.tables.specs.declared.refusals.SizeRefusal.TheVariants.{OutOfRange}
use Rattle.tables.specs.declared.places.PlaceRefusal.{PlaceRefusal}
use Rattle.tables.specs.declared.places.PlaceRefusal.TheVariants as place
use Rattle.tables.specs.declared.refusals.RosterRefusal.{RosterRefusal}
use Rattle.tables.specs.declared.refusals.RosterRefusal.TheVariants.{NoMember, NoSlot, NoPlace}

abbrev pub size_number : SizeRefusal → ℕ
size_number OutOfRange = 3

abbrev pub place_number : PlaceRefusal → ℕ
place_number place.NoMember = 1
place_number place.NoSlot = 2

abbrev pub roster_number : RosterRefusal → ℕ
roster_number NoMember = 1
roster_number NoSlot = 2
roster_number NoPlace = 7

-- the refusal of a change of a roster in a place outside it
abbrev pub roster_refusal : PlaceRefusal → RosterRefusal
roster_refusal place.NoMember = NoMember
roster_refusal place.NoSlot = NoSlot
