use Rattle.std.proofs.Common.{◌-◌, ◌^◌, min, sym, ap, ◌∙◌, arith, rules}
use lib.Bits.{bit_and}
use Rattle.std.proofs.lemmas.Bool.{ltb-false}
use Rattle.views.proofs.LentWords.{lent_word, lent_no_member, lent_no_word}
use Rattle.views.proofs.word_table.WordTableTable.slot_word.Goals as goal

pub returns-then-member-members : goal.returns-then-member-members
returns-then-member-members c =
    let t = c.args.self.now in
    lent_no_member t.size.members t.size.slots t.words.now (omega arith) (omega arith) c.args.member (omega arith)

pub returns-in-None : goal.returns-in-None
returns-in-None c =
    let t = c.args.self.now in
    lent_no_word t.size.members t.size.slots t.words.now (omega arith) (omega arith) c.args.member (ltb-false _ _ (sym c.in-None.ensures.lookup.0))

pub returns-in-Some : goal.returns-in-Some
returns-in-Some c =
    let t = c.args.self.now in
    ap (λ w. bit_and w c.below.result) (search rules)
    ∙ lent_word t.size.members t.size.slots t.words.now (omega arith) (omega arith) c.args.member c.below.result (omega arith) (search rules) (c.below.ensures ∙ ap (λ k. 2 ^ min k 64 - 1) c.slots.ensures)
