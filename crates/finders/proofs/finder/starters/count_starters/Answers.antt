use Rattle.std.proofs.Common.{rules, length, ap, ◌∙◌, tests, arith}
use Rattle.std.proofs.lemmas.Iterator.{YieldsList-from_range}
use Rattle.std.proofs.lemmas.Iterator.Consumers.{YieldsList-from_filter, count_from_yields_List}
use Rattle.finders.specs.Finder.{starts, starter_words, starters}
use Rattle.finders.proofs.Starting.{words_counted}
use Rattle.finders.proofs.finder.starters.count_starters.Goals as goal

pub returns : goal.returns
unfolding starters
returns g c =
    let grid = g.T.Table.grid c.args.table.now in
    count_from_yields_List c.filter.result _ c.count.ensures.ran
    (YieldsList-from_filter _ (starts grid) (YieldsList-from_range 0 c.slots.result c.slots.result c.filter.ensures.source (omega arith)) c.filter.ensures.closure (λ x b q k. search (rules, tests)))
    ∙ words_counted grid c.slots.result ∙ ap (λ n. length (starter_words grid n)) c.slots.ensures
