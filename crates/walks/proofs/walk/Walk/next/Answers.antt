use Rattle.std.proofs.Common.{sym, ap, ◌∙◌, ap₂}
use Rattle.words.specs.Order.{next_word}
use Rattle.tables.specs.Crews.{ahead}
use Rattle.tables.specs.Firsts.{first}
use Rattle.tables.specs.Sides.{sides}
use Rattle.walks.proofs.Walking.{past_first}
use Rattle.walks.proofs.walk.Walk.next.Goals as goal

pub returns-clause-ahead : goal.returns-clause-ahead
returns-clause-ahead g c =
    let grid = g.T.Table.grid c.args.table.now in
    let told = c.in_ok-crew.ensures ∙ ap₂ (λ t p. first (ahead t p)) c.read.ensures c.self.view_is in
    let moved = c.successor-self-inside.ensures.value ∙ ap next_word c.members.ensures in
    ap (ahead grid) moved ∙ past_first grid (g.met.T.Table.proper c.args.table.now) _ (sides c.in_ok-crew.crew) (sym told)
