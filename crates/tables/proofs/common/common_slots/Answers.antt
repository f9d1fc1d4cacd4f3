use Rattle.std.proofs.Common.{refl, inl, inr, arith, rules, tests}
use Rattle.std.proofs.lemmas.Iterator.{YieldsList-from_range}
use Rattle.std.proofs.lemmas.Iterator.Consumers.{fold_from_yields_List}
use Rattle.tables.proofs.Sharing.{share, share_none, share_all}
use Rattle.tables.proofs.common.common_slots.Goals as goal
use Rattle.tables.proofs.common.common_slots.Goals.{then-members-eq0-via-then-members-eq0, then-members-eq0-via-else-members-eq0+then-members-below}

pub returns-then-members-eq0 : goal.returns-then-members-eq0
returns-then-members-eq0 g c =
    let proper = (g.met.T.Table.proper c.args.table.now) in
    elim c.then-members-eq0.branch [
      | then-members-eq0-via-then-members-eq0 w ↦ share_none _ proper c.args.members c.members-count.result _ c.members-count.ensures refl (inl w.if-members-eq0.true)
      | then-members-eq0-via-else-members-eq0+then-members-below w ↦
          share_none _ proper c.args.members c.members-count.result w.below.result c.members-count.ensures w.below.ensures (inr w.if-members-below.true)
    ]

pub returns : goal.returns
returns g c =
    let grid = g.T.Table.grid c.args.table.now in
    share_all grid (g.met.T.Table.proper c.args.table.now) c.args.members c.members-count.result c.below.result c.members-count.ensures c.below.ensures c.slots.result c.below-2.result c.fold.result c.slots.ensures c.below-2.ensures c.if-members-eq0.false c.if-members-below.false
    (fold_from_yields_List _ (share grid (g.met.T.Table.proper c.args.table.now) c.args.members) c.below-2.result c.fold.result c.fold.ensures.ran
    (YieldsList-from_range 0 c.members-count.result c.members-count.result (search rules) (omega arith))
    (λ a x b q k. search (rules, tests)))
