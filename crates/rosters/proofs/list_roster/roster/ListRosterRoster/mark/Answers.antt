use Rattle.std.proofs.Common.{◌≡◌, ◌+◌, ◌-◌, ◌/◌, ◌%◌, ◌<◌, true, false, cond, ◌||◌, eqb, ltb, sym, refl, ap, ◌∙◌, arith}
use Rattle.std.proofs.lemmas.Bool.{lt-ltb, le-ltb, or_left, or_right, or_from, true≢false}
use Rattle.rosters.specs.Coded.{listed}
use Rattle.rosters.specs.Rosters.{list_grid}
use Rattle.tables.proofs.Placing.{placed}
use Rattle.tables.specs.Sheet.{sheet, with_pair}
use Rattle.rosters.proofs.Coding.{pair_marked, pair_unmarked, ascending_put, vacant_put, pairs_put, listed_put, coded_pair}
use Rattle.rosters.proofs.Sheets.{marking_taken, after_mark_taken, marking_full, after_mark_full, after_mark_same}
use Rattle.rosters.proofs.list_roster.roster.ListRosterRoster.mark.Goals as goal
use Rattle.rosters.proofs.list_roster.roster.ListRosterRoster.mark.Goals.{After-first_place-at, Else-self-at}

-- the pair lies within the size
inside : (c : After-first_place-at) → (c.args.member < c.args.self.now.size.members) × (c.args.slot < c.args.self.now.size.slots)
inside c = placed (list_grid c.args.self.now) c.args.member c.args.slot (sym c.check_place.ensures ∙ c.in_ok-check_place.was)

-- something else stands where its code belongs
unmarked_now : (c : Else-self-at) → (list_grid c.args.self.now).marked c.args.member c.args.slot ≡ false
unmarked_now c =
    let within = placed (list_grid c.args.self.now) c.args.member c.args.slot (sym c.check_place.ensures ∙ c.in_ok-check_place.was) in
    let r = c.args.self.now in
    pair_unmarked r.size.members r.size.slots r.used c.args.member c.args.slot c.pair_code-code.result c.first_place-at.result r.codes.places (omega arith) (omega arith) (omega arith) (omega arith) c.pair_code-code.ensures c.first_place-at.ensures r.ascending c.if-self-at.false

pub returns-then-self-at : goal.returns-then-self-at
returns-then-self-at c =
    let d = (goal.at.returns-then-self-at c).After-first_place-at in
    let r = c.args.self.now in
    let s = sheet (list_grid r) r.free in
    let marked = (pair_marked r.size.members r.size.slots r.used c.args.member c.args.slot c.pair_code-code.result c.first_place-at.result r.codes.places (omega arith) (omega arith) (inside d).0 (inside d).1 c.pair_code-code.ensures c.first_place-at.ensures (omega arith) r.vacant c.if-self-at.true).1 in
    record {
      answer = sym (marking_taken s c.args.member c.args.slot (inside d).0 (inside d).1 (or_left _ _ marked));
      after = sym (after_mark_same s c.args.member c.args.slot (inside d).0 (inside d).1 marked);
      kept = λ no. absurd (true≢false no);
    }

pub returns-then-self-eq0 : goal.returns-then-self-eq0
returns-then-self-eq0 c =
    let d = (goal.at.returns-then-self-eq0 c).After-first_place-at in
    let r = c.args.self.now in
    let s = sheet (list_grid r) r.free in
    let full = or_from _ _ (unmarked_now (goal.at.returns-then-self-eq0 c).Else-self-at) (le-ltb 0 r.free (omega arith)) in
    record {
      answer = sym (marking_full s c.args.member c.args.slot (inside d).0 (inside d).1 full);
      after = sym (after_mark_full s c.args.member c.args.slot (inside d).0 (inside d).1 full);
      kept = λ _. refl;
    }

pub invariant_of-self : goal.invariant_of-self
invariant_of-self c =
    let within = placed (list_grid c.args.self.now) c.args.member c.args.slot (sym c.check_place.ensures ∙ c.in_ok-check_place.was) in
    let r = c.args.self.now in
    let code = c.pair_code-code.result in
    let at = c.first_place-at.result in
    let first = c.first_place-at.ensures in
    let pair : (code / 64 < r.size.members) × (code % 64 < r.size.slots) = (omega arith, omega arith) in record { room = omega arith; ascending = ascending_put r.used code at r.codes.places _ first c.put_in.ensures r.ascending c.if-self-at.false; vacant = vacant_put r.used code at r.codes.places _ first c.put_in.ensures r.vacant; pairs = pairs_put r.used code at r.codes.places _ first c.put_in.ensures r.size.members r.size.slots r.pairs pair }

pub returns : goal.returns
returns c =
    let d = (goal.at.returns c).After-first_place-at in
    let r = c.args.self.now in
    let i = c.args.member in
    let j = c.args.slot in
    let s = sheet (list_grid r) r.free in
    let unmarked = unmarked_now (goal.at.returns c).Else-self-at in
    let place : ((list_grid r).marked i j || ltb 0 r.free) ≡ true = or_right _ _ (lt-ltb 0 r.free (omega arith)) in
    let more = listed_put r.used c.pair_code-code.result c.first_place-at.result r.codes.places c.put_in.new.places c.first_place-at.ensures c.put_in.ensures in
    record {
      answer = sym (marking_taken s i j (inside d).0 (inside d).1 place);
      after =
          ap (λ g. sheet g (r.free - 1)) (coded_pair r.size.members r.size.slots r.used (r.used + 1) i j r.codes.places c.put_in.new.places true (omega arith) (inside d).0 (inside d).1 (λ k. more k ∙ ap (λ x. cond (eqb k x) true (listed r.used r.codes.places k)) c.pair_code-code.ensures))
          ∙ ap (λ b. sheet (with_pair (list_grid r) i j true) (r.free - cond b 0 1)) (sym unmarked)
          ∙ sym (after_mark_taken s i j (inside d).0 (inside d).1 place);
      kept = λ no. absurd (true≢false no);
    }
