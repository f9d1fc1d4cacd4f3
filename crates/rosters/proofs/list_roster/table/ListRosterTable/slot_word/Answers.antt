use Rattle.std.proofs.Common.{◌≡◌, ℕ, ◌+◌, ◌/◌, ◌%◌, ◌<◌, get_or, sym, ap, ◌∙◌, subst, le_antisymm, arith, rules}
use lib.Bits.{bit_or}
use Rattle.words.specs.Bits.{lone}
use Rattle.rosters.specs.Coded.{pair_code}
use Rattle.rosters.proofs.Coding.{in_use_long, in_use_code, Spelled, spelled_none, spelled_taken, spelled_skipped, spelled_slots, same_slot, other_member}
use Rattle.rosters.proofs.list_roster.table.ListRosterTable.slot_word.Goals as goal
use Rattle.rosters.proofs.list_roster.table.ListRosterTable.slot_word.Goals.{then-code-from, else-code-from}

pub loop-code-init : goal.loop-code-init
loop-code-init c = spelled_none (λ x. pair_code c.args.member x) c.args.self.now.codes.places

pub loop-code-preserved : goal.loop-code-preserved
loop-code-preserved c =
    let r = c.args.self.now in
    let k = c.loop-code.code-index in
    let code = get_or r.codes.places k 0 in
    let here = in_use_code r.codes.places _ r.used (search rules) c.in_use-code-items.ensures k c.loop-code-test.true in
    let f : ℕ → ℕ = λ x. pair_code c.args.member x in
    elim c.if-code-from.branch [
      | then-code-from w ↦
          let fits : code % 64 < 64 = omega arith in
          let same : code / 64 ≡ c.args.member = ap (λ x. x / 64) (sym here.1) ∙ w.if-code-from.true ∙ c.from.ensures in
          subst (Spelled f (k + 1) r.codes.places) (sym (w.slots-is ∙ ap (bit_or c.loop-code.slots) (w.only-slots.ensures ∙ ap (λ x. lone (x % 64)) here.1)))
          (spelled_taken f k c.loop-code.slots r.codes.places c.loop-code.invariant (code % 64) fits (same_slot code c.args.member same))
      | else-code-from w ↦
          let other : code / 64 ≡ c.args.member → ⊥ = λ e. w.if-code-from.false (ap (λ x. x / 64) here.1 ∙ e ∙ sym c.from.ensures) in
          subst (Spelled f (k + 1) r.codes.places) (sym w.slots-is) (spelled_skipped f k c.loop-code.slots r.codes.places c.loop-code.invariant (other_member code c.args.member other))
    ]

pub returns : goal.returns
returns c =
    let r = c.args.self.now in
    let last = le_antisymm c.loop-code.auto.code-index-end c.loop-code-test.false ∙ in_use_long r.codes.places _ r.used (search rules) c.in_use-code-items.ensures in
    spelled_slots r.size.members r.size.slots r.used r.codes.places (omega arith) (omega arith) r.pairs c.args.member c.loop-code.slots
    (subst (λ k. Spelled (λ x. pair_code c.args.member x) k r.codes.places c.loop-code.slots) last c.loop-code.invariant)
