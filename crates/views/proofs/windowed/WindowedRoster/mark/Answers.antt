use Rattle.std.proofs.Common.{sym, ◌∙◌}
use Rattle.views.proofs.Windows.{window_after_mark}
use Rattle.views.proofs.windowed.WindowedRoster.mark.Goals as goal

pub returns-clause-after : goal.returns-clause-after
returns-clause-after g c =
    let t = c.args.self.now in
    window_after_mark (g.R.Roster.sheet t.table) (g.R.Table.grid t.table) (g.met.R.Roster.on_grid t.table) (g.met.R.Table.proper t.table) t.from t.count c.start.result c.args.member c.args.slot c.start.ensures (sym c.check_place.ensures ∙ c.in_ok-check_place.was) _ c.mark.ensures.after
