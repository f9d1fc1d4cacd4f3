-- What a roster means, a grid with free places, and what mark and clear do to it. Assumes nothing.
use Rattle.std.specs.Prelude.{ℕ, ◌+◌, ◌-◌, Bool, true, false, cond, ◌&&◌, ◌||◌, is_ok, Ok, Err, Result, ◌==◌, nat_lt}
use Rattle.tables.specs.Grid.{Grid}
use Rattle.tables.specs.declared.places.PlaceRefusal.{PlaceRefusal}
use Rattle.tables.specs.declared.places.PlaceRefusal.TheVariants as place
use Rattle.tables.specs.declared.refusals.RosterRefusal.{RosterRefusal}
use Rattle.tables.specs.declared.refusals.RosterRefusal.TheVariants.{NoMember, NoSlot, NoPlace}

pub record Sheet : Type 0 where
  pub grid : Grid
  pub free : ℕ

abbrev pub sheet : Grid → ℕ → Sheet
sheet g k = record { grid = g; free = k }

-- the grid in which pair (i, j) is marked or not as told, and every other pair as before
abbrev pub with_pair : Grid → ℕ → ℕ → Bool → Grid
with_pair g i j told = record {
  members = g.members;
  slots = g.slots;
  marked = λ a b. cond (a == i && b == j) told (g.marked a b);
}

-- whether a grid has the place of member i and slot j: refused where i is no member, then where j is no slot
abbrev pub placing : Grid → ℕ → ℕ → Result (Unit {0}) PlaceRefusal
placing g i j = cond (nat_lt i g.members) (cond (nat_lt j g.slots) (Ok tt) (Err place.NoSlot)) (Err place.NoMember)

-- the answer of mark
abbrev pub marking : Sheet → ℕ → ℕ → Result (Unit {0}) RosterRefusal
marking s i j =
    cond (nat_lt i s.grid.members)
    (cond (nat_lt j s.grid.slots) (cond (s.grid.marked i j || nat_lt 0 s.free) (Ok tt) (Err NoPlace)) (Err NoSlot))
    (Err NoMember)

-- the sheet after mark: a newly marked pair takes a free place, and a refusal changes nothing
abbrev pub after_mark : Sheet → ℕ → ℕ → Sheet
after_mark s i j =
    cond (is_ok (marking s i j)) (sheet (with_pair s.grid i j true) (s.free - cond (s.grid.marked i j) 0 1)) s

-- the answer of clear
abbrev pub clearing : Sheet → ℕ → ℕ → Result (Unit {0}) RosterRefusal
clearing s i j = cond (nat_lt i s.grid.members) (cond (nat_lt j s.grid.slots) (Ok tt) (Err NoSlot)) (Err NoMember)

-- the sheet after clear: a pair that was marked gives its place back, and a refusal changes nothing
abbrev pub after_clear : Sheet → ℕ → ℕ → Sheet
after_clear s i j =
    cond (is_ok (clearing s i j)) (sheet (with_pair s.grid i j false) (s.free + cond (s.grid.marked i j) 1 0)) s

-- n members and m slots with no mark
abbrev pub unmarked : ℕ → ℕ → Grid
unmarked n m = record { members = n; slots = m; marked = λ _ _. false }
