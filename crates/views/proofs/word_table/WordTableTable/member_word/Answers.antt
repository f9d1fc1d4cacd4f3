use Rattle.std.proofs.Common.{◌≡◌, ℕ, ◌+◌, ◌<◌, Bool, true, ◌&&◌, ltb, sym, ap, ◌∙◌, subst, le_antisymm, arith}
use lib.Bits.{bit_or}
use Rattle.std.proofs.lemmas.Bool.{lt-ltb, le-ltb, and_from, and_left, and_right}
use Rattle.tables.specs.Filed.{held}
use Rattle.words.proofs.Gathering.{GatheredBelow, gathered_none, gathered_taken, gathered_skipped}
use Rattle.views.proofs.LentWords.{lent_no_slot, lent_members}
use Rattle.views.proofs.word_table.WordTableTable.member_word.Goals as goal
use Rattle.views.proofs.word_table.WordTableTable.member_word.Goals.{then-i-count+then-holds, else-i-count, else-i-count-via-then-i-count+else-holds, else-i-count-via-else-i-count}

pub returns-then-slot-slots : goal.returns-then-slot-slots
returns-then-slot-slots c =
    let t = c.args.self.now in
    lent_no_slot t.size.members t.size.slots t.words.now (omega arith) (omega arith) c.args.slot (omega arith)

pub loop-i-init : goal.loop-i-init
loop-i-init c = gathered_none _

pub loop-i-preserved : goal.loop-i-preserved
loop-i-preserved c =
    let t = c.args.self.now in
    let j = c.args.slot in
    let i = c.loop-i.i in
    let f : ℕ → Bool = λ i. (ltb i t.size.members && ltb j t.size.slots) && held t.words.now i j in
    let slot : ltb j t.size.slots ≡ true = lt-ltb j t.size.slots (omega arith) in
    elim c.if-i-count.branch [
      | then-i-count+then-holds w ↦
          let member : i < t.size.members = omega (arith, w.if-i-count.true) in
          let fits : i < 64 = omega (arith, w.if-i-count.true) in
          subst (GatheredBelow f (i + 1)) (sym (w.members-is ∙ ap (bit_or c.loop-i.members) w.only-members.ensures))
          (gathered_taken f i c.loop-i.members c.loop-i.invariant fits (and_from _ _ (and_from _ _ (lt-ltb i t.size.members member) slot) (sym w.if-holds.ensures)))
      | else-i-count w ↦
          subst (GatheredBelow f (i + 1)) (sym w.members-is) (gathered_skipped f i c.loop-i.members c.loop-i.invariant (elim w.else-i-count.branch [
            | else-i-count-via-then-i-count+else-holds v ↦ and_right _ _ (sym v.if-holds.ensures)
            | else-i-count-via-else-i-count v ↦ and_left _ _ (and_left _ _ (le-ltb i t.size.members (omega (arith, v.if-i-count.false))))
          ]))
    ]

pub returns : goal.returns
returns c =
    let t = c.args.self.now in
    let j = c.args.slot in
    let f : ℕ → Bool = λ i. (ltb i t.size.members && ltb j t.size.slots) && held t.words.now i j in
    let last = le_antisymm c.loop-i.auto.i-end c.loop-i-test.false in
    lent_members t.size.members t.size.slots t.words.now (omega arith) (omega arith) j c.loop-i.members (subst (λ k. GatheredBelow f k c.loop-i.members) last c.loop-i.invariant)
