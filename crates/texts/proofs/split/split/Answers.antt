use Rattle.std.proofs.Common.{◌==◌, sym, ◌∙◌, arith, rules, tests}
use Rattle.std.proofs.lemmas.Iterator.{YieldsList-from_slice}
use Rattle.std.proofs.lemmas.Iterator.Search.{position_from_yields_List}
use Rattle.std.proofs.lemmas.List.{take_rest, drop_all}
use Rattle.texts.proofs.Splits.{split_some, split_none}
use Rattle.texts.proofs.split.split.Goals as goal

pub returns-in-Some : goal.returns-in-Some
returns-in-Some c =
    let is = sym c.in-Some.is ∙ position_from_yields_List (λ b. b == c.args.mark) _ _ c.position.result c.position.ensures.ran (YieldsList-from_slice c.args.bytes.now (search rules)) (λ x b q k. search (rules, tests)) in
    let cut = split_some c.args.mark c.in-Some.at c.args.bytes.now is in
    record { front = cut.0; back = take_rest c.args.bytes.now _ ∙ cut.1 }

pub returns-in-None : goal.returns-in-None
returns-in-None c =
    let is = sym c.in-None.is ∙ position_from_yields_List (λ b. b == c.args.mark) _ _ c.position.result c.position.ensures.ran (YieldsList-from_slice c.args.bytes.now (search rules)) (λ x b q k. search (rules, tests)) in
    let cut = split_none c.args.mark c.args.bytes.now is in
    record { front = cut.0; back = take_rest c.args.bytes.now _ ∙ drop_all _ c.args.bytes.now (omega arith) ∙ cut.1 }
