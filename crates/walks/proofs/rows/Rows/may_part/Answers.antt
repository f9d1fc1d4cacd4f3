use Rattle.std.proofs.Common.{◌&&◌, sym, ap, ◌∙◌, add-one, arith}
use Rattle.std.proofs.lemmas.Bool.{lt-ltb}
use Rattle.tables.specs.Walk.{closed_below, fits}
use Rattle.walks.specs.Rows.{rows_grid}
use Rattle.walks.proofs.rows.Rows.may_part.Goals as goal

pub returns-then-slots-eq0 : goal.returns-then-slots-eq0
unfolding fits
returns-then-slots-eq0 c = sym (ap (fits (rows_grid c.args.self.now) c.args.i c.args.front) c.if-slots-eq0.true)

pub returns : goal.returns
unfolding fits
returns c =
    let g = rows_grid c.args.self.now in
    c.is_closed.ensures ∙ ap (λ n. closed_below g n c.args.front c.args.slots) (add-one c.args.i)
    ∙ sym (ap (λ t. t && closed_below g (Prim.Native.Nat.suc c.args.i) c.args.front c.args.slots) (lt-ltb 0 c.args.slots (omega arith)))
