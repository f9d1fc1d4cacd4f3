use Rattle.std.proofs.Common.{◌≡◌, ◌+◌, ◌<◌, true, false, cond, length, get_or, set, sym, refl, ap, ◌∙◌, subst, arith, rules}
use lib.Bits.{bit_xor}
use Rattle.std.proofs.lemmas.Bool.{true≢false}
use Rattle.tables.specs.Filed.{held}
use Rattle.rosters.specs.Kept.{Counted}
use Rattle.rosters.specs.Rosters.{bit_grid}
use Rattle.tables.proofs.Placing.{placed}
use Rattle.tables.specs.Sheet.{sheet, with_pair}
use Rattle.rosters.proofs.Filing.{Put, put_clear, inside_put, mirrored_put, counted_clear, grid_put}
use Rattle.rosters.proofs.Sheets.{clearing_taken, after_clear_taken}
use Rattle.rosters.proofs.bit_roster.roster.BitRosterRoster.clear.Goals as goal
use Rattle.rosters.proofs.bit_roster.roster.BitRosterRoster.clear.Goals.{After-only-then-holds}

-- the pair lies within the size, and is marked
inside : (c : After-only-then-holds) → (c.args.member < c.args.self.now.size.members) × (c.args.slot < c.args.self.now.size.slots)
inside c = placed (bit_grid c.args.self.now) c.args.member c.args.slot (sym c.check_place.ensures ∙ c.in_ok-check_place.was)

was : (c : After-only-then-holds) → held c.args.self.now.rows c.args.member c.args.slot ≡ true
was c = sym c.holds.ensures ∙ c.if-holds.true

row_put : (c : After-only-then-holds) → Put c.args.self.now.rows c.args.member c.args.slot false (set c.args.self.now.rows c.args.member (bit_xor (get_or c.args.self.now.rows c.args.member 0) c.only.result))
row_put c =
    let r = c.args.self.now in
    let within = inside c in
    let long : length r.rows ≡ 64 = search rules in
    subst (λ w. Put r.rows c.args.member c.args.slot false (set r.rows c.args.member (bit_xor (get_or r.rows c.args.member 0) w))) (sym c.only.ensures)
    (put_clear r.rows c.args.member c.args.slot (omega arith) (omega arith) (was c))

column_put : (c : After-only-then-holds) → Put c.args.self.now.columns c.args.slot c.args.member false (set c.args.self.now.columns c.args.slot (bit_xor (get_or c.args.self.now.columns c.args.slot 0) c.only-then-holds.result))
column_put c =
    let r = c.args.self.now in
    let within = inside c in
    let long : length r.columns ≡ 64 = search rules in
    subst (λ w. Put r.columns c.args.slot c.args.member false (set r.columns c.args.slot (bit_xor (get_or r.columns c.args.slot 0) w))) (sym c.only-then-holds.ensures)
    (put_clear r.columns c.args.slot c.args.member (omega arith) (omega arith) (r.mirrored c.args.member c.args.slot ∙ was c))

counted_now : (c : After-only-then-holds) → Counted c.args.self.now.size.members c.args.self.now.size.slots (set c.args.self.now.rows c.args.member (bit_xor (get_or c.args.self.now.rows c.args.member 0) c.only.result)) (c.args.self.now.free + 1)
counted_now c =
    let r = c.args.self.now in
    counted_clear r.size.members r.size.slots r.free r.rows _ c.args.member c.args.slot r.counted (inside c).0 (inside c).1 (was c) (row_put c)

pub invariant_of-self : goal.invariant_of-self
invariant_of-self c =
    let r = c.args.self.now in record { inside = inside_put r.rows _ c.args.member c.args.slot false (row_put c) r.size.members r.size.slots r.inside (inside c).0 (inside c).1; mirrored = mirrored_put r.rows _ c.args.member c.args.slot false (row_put c) r.columns _ r.mirrored (column_put c); counted = counted_now c }

pub returns-then-holds : goal.returns-then-holds
returns-then-holds c =
    let d = (goal.at.returns-then-holds c).After-only-then-holds in
    let r = c.args.self.now in
    let s = sheet (bit_grid r) r.free in
    record {
      answer = sym (clearing_taken s c.args.member c.args.slot (inside d).0 (inside d).1);
      after =
          grid_put r.rows _ c.args.member c.args.slot false (row_put d) r.size.members r.size.slots (r.free + 1) (bit_grid r) refl
          ∙ ap (λ b. sheet (with_pair (bit_grid r) c.args.member c.args.slot false) (r.free + cond b 1 0)) (sym (was d))
          ∙ sym (after_clear_taken s c.args.member c.args.slot (inside d).0 (inside d).1);
      kept = λ no. absurd (true≢false no);
    }
