use Rattle.std.proofs.Common.{Some, ◌-◌, ◌/◌, ◌%◌, ◌*◌, sym, ap, ◌∙◌, ap₂, arith}
use lib.Bits.{bit_and}
use Rattle.finders.specs.Finder.{finding, members_at, met}
use Rattle.finders.proofs.Rule.{none_due, slot_due, pair_due}
use Rattle.finders.proofs.finder.Finder.wanted.Goals as goal

pub returns-then-self-slots : goal.returns-then-self-slots
returns-then-self-slots g c =
    let slots = c.from-slots.ensures ∙ c.slots.ensures in
    let within = c.if-self-slots.true in
    ap Some c.member_word.ensures ∙ sym (slot_due _ (finding c.args.self.now) (omega arith))

pub returns-then-pair-starters : goal.returns-then-pair-starters
returns-then-pair-starters g c =
    let slots = c.from-slots.ensures ∙ c.slots.ensures in
    let past = c.if-self-slots.false in
    let over = c.if-pair-starters.true in
    let pairs = ap₂ ◌*◌ (c.from-starters.ensures ∙ c.count_starters.ensures) (c.from.ensures ∙ c.len.ensures.count) in
    sym (none_due _ (finding c.args.self.now) (omega arith))

pub returns : goal.returns
unfolding met
returns g c =
    let st = finding c.args.self.now in
    let slots = c.from-slots.ensures ∙ c.slots.ensures in
    let count = c.from-starters.ensures ∙ c.count_starters.ensures in
    let pairs = ap₂ ◌*◌ count (c.from.ensures ∙ c.len.ensures.count) in
    let past = c.if-self-slots.false in
    let within = c.if-pair-starters.false in
    ap Some
    (ap₂ bit_and
    (c.members_at-crew.ensures ∙ ap₂ (λ u s. members_at st.found (u / s)) (ap (λ n. st.steps - n) slots) count)
    (c.members_at-starter.ensures ∙ ap₂ (λ u s. members_at st.found (u % s)) (ap (λ n. st.steps - n) slots) count))
    ∙ sym (pair_due _ st (omega arith) (omega arith))
