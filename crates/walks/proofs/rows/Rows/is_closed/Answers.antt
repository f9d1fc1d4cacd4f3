use Rattle.std.proofs.Common.{rules, ◌||◌, not, eqb, refl, ◌∙◌, tests, arith}
use lib.Bits.{bit_and}
use Rattle.std.proofs.lemmas.Iterator.{YieldsList-from_range}
use Rattle.std.proofs.lemmas.Iterator.Search.{all_from_yields_List}
use Rattle.words.specs.Bits.{bit}
use Rattle.tables.specs.Grid.{slot_word}
use Rattle.tables.specs.Walk.{closed_below}
use Rattle.walks.specs.Rows.{rows_grid}
use Rattle.words.proofs.Ranges.{every_all}
use Rattle.walks.proofs.rows.Rows.is_closed.Goals as goal

pub returns : goal.returns
unfolding closed_below
returns c =
    all_from_yields_List (λ k. bit c.args.front k || not (eqb (bit_and c.args.slots (slot_word (rows_grid c.args.self.now) k)) c.args.slots)) _ _ _ c.all.ensures.ran (YieldsList-from_range 0 c.args.end c.args.end refl (omega arith)) (λ x b q k. search (rules, tests))
    ∙ every_all _ c.args.end
