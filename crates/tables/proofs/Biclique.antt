-- The crews of a grid are its maximal bicliques. Assumes nothing.
use Rattle.std.proofs.Common.{◌≡◌, ℕ, ◌<◌, true, sym, subst}
use Rattle.words.proofs.Listed.{within_both, held_below}
use Rattle.tables.specs.Grid.{Grid, shared_slots}
use Rattle.tables.specs.Crews.{is_crew}
use Rattle.tables.specs.Biclique.{HasAll, MaximalBiclique, CrewsAreMaximalBicliques}
use Rattle.tables.proofs.Closure.{shared_slots_below, shared_slots_tells, member_has_all}
use Rattle.tables.proofs.Crews.{crew_manned, manned_crew}

pub crew_maximal : (g : Grid) (x y : ℕ) → is_crew g x y ≡ true → MaximalBiclique g x y
crew_maximal g x y h =
    let m = (crew_manned g x y h).0 in
    subst (MaximalBiclique g x) (sym (crew_manned g x y h).1) (record {
      some_member = m.some_member;
      members_only = m.members_only;
      some_slot = m.some_slot;
      slots_only = shared_slots_below g x;
      free = λ i j a b. member_has_all g x i m.members_only a j b;
      no_more_members = m.closed;
      no_more_slots = λ j l f. (shared_slots_tells g x j m.members_only).1 (l, f);
    })

-- the slots of a maximal biclique are the shared slots of its members
maximal_slots : (g : Grid) (x y : ℕ) → MaximalBiclique g x y → y ≡ shared_slots g x
maximal_slots g x y m =
    within_both g.slots y (shared_slots g x) m.slots_only (shared_slots_below g x)
    (λ j b. (shared_slots_tells g x j m.members_only).1 (held_below g.slots y j m.slots_only b, λ i a. m.free i j a b))
    (λ j b. let both = (shared_slots_tells g x j m.members_only).0 b in m.no_more_slots j both.0 both.1)

pub maximal_crew : (g : Grid) (x y : ℕ) → MaximalBiclique g x y → is_crew g x y ≡ true
maximal_crew g x y m =
    let e = maximal_slots g x y m in
    subst (λ z. is_crew g x z ≡ true) (sym e) (manned_crew g x (record {
      some_member = m.some_member;
      members_only = m.members_only;
      some_slot = subst (λ z. 0 < z) e m.some_slot;
      closed = λ i l f. m.no_more_members i l (subst (λ z. HasAll g z i) (sym e) f);
    }))

pub crews_are_maximal_bicliques : CrewsAreMaximalBicliques
crews_are_maximal_bicliques g proper x y = (crew_maximal g x y, maximal_crew g x y)
