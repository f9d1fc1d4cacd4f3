use Rattle.std.proofs.Common.{refl, ◌∙◌}
use Rattle.views.proofs.Windows.{window_member_word, window_no_slot}
use Rattle.views.proofs.windowed.WindowedTable.member_word.Goals as goal

pub returns-then-slot-width : goal.returns-then-slot-width
returns-then-slot-width g c =
    let t = c.args.self.now in
    c.member_word.ensures
    ∙ window_member_word (g.T.Table.grid t.table) (g.met.T.Table.proper t.table) t.from t.count c.start.result c.width.result c.start.ensures c.width.ensures c.args.slot c.if-slot-width.true

pub returns-else-slot-width : goal.returns-else-slot-width
returns-else-slot-width g c =
    let t = c.args.self.now in
    window_no_slot (g.T.Table.grid t.table) (g.met.T.Table.proper t.table) t.from t.count _ c.width.result refl c.width.ensures c.args.slot c.if-slot-width.false
