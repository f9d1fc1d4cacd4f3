use Rattle.views.proofs.Windows.{window_word}
use Rattle.views.proofs.windowed.WindowedTable.slot_word.Goals as goal

pub returns : goal.returns
returns g c =
    let t = c.args.self.now in
    window_word (g.T.Table.grid t.table) (g.met.T.Table.proper t.table) t.from t.count c.start.result c.width.result c.start.ensures c.width.ensures c.args.member c.slot_word.result c.below.result c.slot_word.type_inv c.slot_word.ensures c.below.ensures
