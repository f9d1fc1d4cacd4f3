use Rattle.std.proofs.Common.{◌≡◌, ◌+◌, ◌-◌, ◌%◌, ◌^◌, min, get_or, set, replicate, sym, refl, ap, ◌∙◌, subst, ap₂, add-one, arith, length-set, get_or-set_other, get_or-set_same, below_more}
use native.Mathlib.Nat.{mod-one}
use lib.Bits.{bit_and}
use Rattle.std.proofs.lemmas.Bool.{cond-true, cond-false}
use Rattle.tables.specs.Grid.{shared_slots}
use Rattle.tables.proofs.Closure.{shared_slots_none, shared_slots_cut}
use Rattle.words.proofs.Bits.{all_below}
use Rattle.walks.specs.Rows.{rows_grid}
use Rattle.walks.proofs.Snapshots.{rows_proper}
use Rattle.walks.proofs.rows.Rows.shared_by_fronts.Goals as goal
use Rattle.walks.proofs.rows.Rows.shared_by_fronts.Goals.{After-below-slots, Joined-holds, then-holds, else-holds}

-- no number is below 0, so the front is empty and shares every slot
first-front : (c : After-below-slots) → c.below-slots.result ≡ shared_slots (rows_grid c.args.self.now) (c.args.word % 2 ^ 0)
first-front c =
    let r = c.args.self.now in
    c.below-slots.ensures ∙ ap (λ n. 2 ^ min n 64 - 1) c.slots.ensures ∙ all_below r.size.slots r.size.slots_fit ∙ sym (ap (shared_slots (rows_grid r)) (mod-one c.args.word) ∙ shared_slots_none (rows_grid r))

pub loop-i-init : goal.loop-i-init
loop-i-init c = (
  refl,
  first-front (goal.at.loop-i-init c).After-below-slots,
  λ k h.
      let none : k ≡ 0 = omega arith in
      let r = c.args.self.now in
      subst (λ k. get_or (set (replicate 65 0) 0 c.below-slots.result) k 0 ≡ shared_slots (rows_grid r) (c.args.word % 2 ^ k)) (sym none) (first-front (goal.at.loop-i-init c).After-below-slots),
)

next_front : (c : Joined-holds) → c.if-holds.slots ≡ shared_slots (rows_grid c.args.self.now) (c.args.word % 2 ^ (c.loop-i.i + 1))
next_front c =
    let r = c.args.self.now in
    let grid = rows_grid r in
    let i = c.loop-i.i in
    let cut = ap (λ k. shared_slots grid (c.args.word % 2 ^ k)) (add-one i) ∙ shared_slots_cut grid (rows_proper r) c.args.word i (omega arith) in
    elim c.if-holds.branch [
      | then-holds w ↦ w.slots-is ∙ ap₂ bit_and c.loop-i.invariant.1 w.word-slots.ensures ∙ sym (cut ∙ cond-true _ _ _ (sym c.holds.ensures ∙ w.if-holds.true))
      | else-holds w ↦ w.slots-is ∙ c.loop-i.invariant.1 ∙ sym (cut ∙ cond-false _ _ _ (sym c.holds.ensures ∙ w.if-holds.false))
    ]

pub loop-i-preserved : goal.loop-i-preserved
loop-i-preserved c =
    let i = c.loop-i.i in
    let long = c.loop-i.invariant.0 in (
      length-set _ _ _ ∙ long,
      next_front c,
      below_more _ _
          (λ k h. get_or-set_other c.loop-i.shared (i + 1) k c.if-holds.slots 0 (omega arith) ∙ c.loop-i.invariant.2 k h)
          (get_or-set_same c.loop-i.shared (i + 1) c.if-holds.slots 0 (omega arith) ∙ next_front c),
    )
