use Rattle.std.proofs.Common.{◌≡◌, ◌-◌, ◌<◌, ◌≤◌, true, false, cond, ◌||◌, ltb, length, get_or, set, sym, refl, ap, ◌∙◌, subst, arith, rules}
use lib.Bits.{bit_or}
use Rattle.std.proofs.lemmas.Bool.{lt-ltb, or_right, true≢false}
use Rattle.tables.specs.Filed.{held}
use Rattle.rosters.specs.Kept.{Counted}
use Rattle.rosters.specs.Rosters.{bit_grid}
use Rattle.tables.proofs.Placing.{placed}
use Rattle.tables.specs.Sheet.{sheet, with_pair}
use Rattle.rosters.proofs.Filing.{Put, put_mark, inside_put, mirrored_put, counted_mark, grid_put}
use Rattle.rosters.proofs.Sheets.{marking_taken, after_mark_taken}
use Rattle.rosters.proofs.bit_roster.roster.BitRosterRoster.mark.Goals as goal
use Rattle.rosters.proofs.bit_roster.roster.BitRosterRoster.mark.Goals.{After-only-then-not-holds}

-- the pair lies within the size, and is not marked
inside : (c : After-only-then-not-holds) → (c.args.member < c.args.self.now.size.members) × (c.args.slot < c.args.self.now.size.slots)
inside c = placed (bit_grid c.args.self.now) c.args.member c.args.slot (sym c.check_place.ensures ∙ c.in_ok-check_place.was)

was : (c : After-only-then-not-holds) → held c.args.self.now.rows c.args.member c.args.slot ≡ false
was c = sym c.holds.ensures ∙ c.if-not-holds.true

row_put : (c : After-only-then-not-holds) → Put c.args.self.now.rows c.args.member c.args.slot true (set c.args.self.now.rows c.args.member (bit_or (get_or c.args.self.now.rows c.args.member 0) c.only.result))
row_put c =
    let r = c.args.self.now in
    let within = inside c in
    let long : length r.rows ≡ 64 = search rules in
    subst (λ w. Put r.rows c.args.member c.args.slot true (set r.rows c.args.member (bit_or (get_or r.rows c.args.member 0) w))) (sym c.only.ensures)
    (put_mark r.rows c.args.member c.args.slot (omega arith) (omega arith))

column_put : (c : After-only-then-not-holds) → Put c.args.self.now.columns c.args.slot c.args.member true (set c.args.self.now.columns c.args.slot (bit_or (get_or c.args.self.now.columns c.args.slot 0) c.only-then-not-holds.result))
column_put c =
    let r = c.args.self.now in
    let within = inside c in
    let long : length r.columns ≡ 64 = search rules in
    subst (λ w. Put r.columns c.args.slot c.args.member true (set r.columns c.args.slot (bit_or (get_or r.columns c.args.slot 0) w))) (sym c.only-then-not-holds.ensures)
    (put_mark r.columns c.args.slot c.args.member (omega arith) (omega arith))

counted_now : (c : After-only-then-not-holds) → (1 ≤ c.args.self.now.free) × Counted c.args.self.now.size.members c.args.self.now.size.slots (set c.args.self.now.rows c.args.member (bit_or (get_or c.args.self.now.rows c.args.member 0) c.only.result)) (c.args.self.now.free - 1)
counted_now c =
    let r = c.args.self.now in
    counted_mark r.size.members r.size.slots r.free r.rows _ c.args.member c.args.slot r.counted (inside c).0 (inside c).1 (was c) (row_put c)

pub overflow_sub-self : goal.overflow_sub-self
overflow_sub-self c = omega (arith, (counted_now c).0)

pub invariant_of-self : goal.invariant_of-self
invariant_of-self c =
    let r = c.args.self.now in record { inside = inside_put r.rows _ c.args.member c.args.slot true (row_put c) r.size.members r.size.slots r.inside (inside c).0 (inside c).1; mirrored = mirrored_put r.rows _ c.args.member c.args.slot true (row_put c) r.columns _ r.mirrored (column_put c); counted = (counted_now c).1 }

pub returns-then-not-holds : goal.returns-then-not-holds
returns-then-not-holds c =
    let d = (goal.at.returns-then-not-holds c).After-only-then-not-holds in
    let r = c.args.self.now in
    let s = sheet (bit_grid r) r.free in
    let place : (held r.rows c.args.member c.args.slot || ltb 0 r.free) ≡ true = or_right _ _ (lt-ltb 0 r.free (counted_now d).0) in
    record {
      answer = sym (marking_taken s c.args.member c.args.slot (inside d).0 (inside d).1 place);
      after =
          grid_put r.rows _ c.args.member c.args.slot true (row_put d) r.size.members r.size.slots (r.free - 1) (bit_grid r) refl
          ∙ ap (λ b. sheet (with_pair (bit_grid r) c.args.member c.args.slot true) (r.free - cond b 0 1)) (sym (was d))
          ∙ sym (after_mark_taken s c.args.member c.args.slot (inside d).0 (inside d).1 place);
      kept = λ no. absurd (true≢false no);
    }
