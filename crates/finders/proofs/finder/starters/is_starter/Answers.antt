use Rattle.std.proofs.Common.{rules, ◌&&◌, not, eqb, ltb, sym, refl, ap, ◌∙◌, tests, arith}
use Rattle.std.proofs.lemmas.Bool.{lt-ltb}
use Rattle.std.proofs.lemmas.Iterator.{YieldsList-from_range}
use Rattle.std.proofs.lemmas.Iterator.Search.{all_from_yields_List}
use Rattle.words.specs.Bits.{every}
use Rattle.tables.specs.Grid.{member_word}
use Rattle.finders.specs.Finder.{starts}
use Rattle.words.proofs.Ranges.{every_all}
use Rattle.finders.proofs.finder.starters.is_starter.Goals as goal

pub returns-then-word-ne0 : goal.returns-then-word-ne0
unfolding starts
returns-then-word-ne0 g c =
    let grid = g.T.Table.grid c.args.table.now in
    let word = c.member_word-word.ensures in
    let some = c.if-word-ne0.true in
    let all = all_from_yields_List (λ k. not (eqb (member_word grid k) c.member_word-word.result)) _ _ _ c.all.ensures.ran (YieldsList-from_range 0 c.args.slot c.args.slot refl (omega arith)) (λ x b q k. search (rules, tests)) in
    all ∙ every_all _ c.args.slot ∙ sym (ap (λ b. b && every (λ k. not (eqb (member_word grid k) c.member_word-word.result)) c.args.slot) (lt-ltb 0 c.member_word-word.result (omega arith)))
    ∙ ap (λ w. ltb 0 w && every (λ k. not (eqb (member_word grid k) w)) c.args.slot) word

pub returns-else-word-ne0 : goal.returns-else-word-ne0
unfolding starts
returns-else-word-ne0 g c =
    let grid = g.T.Table.grid c.args.table.now in
    let none = c.if-word-ne0.false in
    ap (λ w. not (eqb w 0)) none ∙ sym (ap (λ w. ltb 0 w && every (λ k. not (eqb (member_word grid k) w)) c.args.slot) (sym c.member_word-word.ensures ∙ none))
