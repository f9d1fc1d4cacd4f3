use Rattle.std.proofs.Common.{◌≡◌, ◌+◌, ◌-◌, ◌<◌, true, false, cond, eqb, sym, ap, ◌∙◌, arith}
use Rattle.std.proofs.lemmas.Bool.{true≢false}
use Rattle.rosters.specs.Coded.{listed}
use Rattle.rosters.specs.Rosters.{list_grid}
use Rattle.tables.proofs.Placing.{placed}
use Rattle.tables.specs.Sheet.{sheet, with_pair}
use Rattle.rosters.proofs.Coding.{pair_marked, pair_unmarked, ascending_take, vacant_take, pairs_take, listed_take, coded_pair}
use Rattle.rosters.proofs.Sheets.{clearing_taken, after_clear_taken, after_clear_same}
use Rattle.rosters.proofs.list_roster.roster.ListRosterRoster.clear.Goals as goal
use Rattle.rosters.proofs.list_roster.roster.ListRosterRoster.clear.Goals.{After-first_place-at, Then-self-at}

-- the pair lies within the size
inside : (c : After-first_place-at) → (c.args.member < c.args.self.now.size.members) × (c.args.slot < c.args.self.now.size.slots)
inside c = placed (list_grid c.args.self.now) c.args.member c.args.slot (sym c.check_place.ensures ∙ c.in_ok-check_place.was)

-- its code stands where it belongs
marked_now : (c : Then-self-at) → (c.first_place-at.result < c.args.self.now.used) × ((list_grid c.args.self.now).marked c.args.member c.args.slot ≡ true)
marked_now c =
    let within = placed (list_grid c.args.self.now) c.args.member c.args.slot (sym c.check_place.ensures ∙ c.in_ok-check_place.was) in
    let r = c.args.self.now in
    pair_marked r.size.members r.size.slots r.used c.args.member c.args.slot c.pair_code-code.result c.first_place-at.result r.codes.places (omega arith) (omega arith) (omega arith) (omega arith) c.pair_code-code.ensures c.first_place-at.ensures (omega arith) r.vacant c.if-self-at.true

pub invariant_of-self : goal.invariant_of-self
invariant_of-self c =
    let r = c.args.self.now in
    let code = c.pair_code-code.result in
    let at = c.first_place-at.result in
    let held = (marked_now (goal.at.invariant_of-self c).Then-self-at).0 in
    let is = c.if-self-at.true in record { room = omega arith; ascending = ascending_take r.used code at r.codes.places _ held is c.take_out.ensures r.ascending; vacant = vacant_take r.used code at r.codes.places _ held is c.take_out.ensures (omega arith) r.vacant; pairs = pairs_take r.used code at r.codes.places _ held is c.take_out.ensures r.size.members r.size.slots r.pairs }

pub returns-then-self-at : goal.returns-then-self-at
returns-then-self-at c =
    let d = (goal.at.returns-then-self-at c).After-first_place-at in
    let both = marked_now (goal.at.returns-then-self-at c).Then-self-at in
    let r = c.args.self.now in
    let i = c.args.member in
    let j = c.args.slot in
    let s = sheet (list_grid r) r.free in
    let less = listed_take r.used c.pair_code-code.result c.first_place-at.result r.codes.places c.take_out.new.places both.0 c.if-self-at.true c.take_out.ensures r.ascending in
    record {
      answer = sym (clearing_taken s i j (inside d).0 (inside d).1);
      after =
          ap (λ g. sheet g (r.free + 1)) (coded_pair r.size.members r.size.slots r.used (r.used - 1) i j r.codes.places c.take_out.new.places false (omega arith) (inside d).0 (inside d).1 (λ k. less k ∙ ap (λ x. cond (eqb k x) false (listed r.used r.codes.places k)) c.pair_code-code.ensures))
          ∙ ap (λ b. sheet (with_pair (list_grid r) i j false) (r.free + cond b 1 0)) (sym both.1)
          ∙ sym (after_clear_taken s i j (inside d).0 (inside d).1);
      kept = λ no. absurd (true≢false no);
    }

pub returns-else-self-at : goal.returns-else-self-at
returns-else-self-at c =
    let d = (goal.at.returns-else-self-at c).After-first_place-at in
    let r = c.args.self.now in
    let i = c.args.member in
    let j = c.args.slot in
    let s = sheet (list_grid r) r.free in
    let unmarked = pair_unmarked r.size.members r.size.slots r.used i j c.pair_code-code.result c.first_place-at.result r.codes.places (omega arith) (omega arith) (inside d).0 (inside d).1 c.pair_code-code.ensures c.first_place-at.ensures r.ascending c.if-self-at.false in
    record {
      answer = sym (clearing_taken s i j (inside d).0 (inside d).1);
      after = sym (after_clear_same s i j (inside d).0 (inside d).1 unmarked);
      kept = λ no. absurd (true≢false no);
    }
