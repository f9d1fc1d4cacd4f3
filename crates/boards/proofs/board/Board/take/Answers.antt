use Rattle.boards.proofs.Boards.{take_done}
use Rattle.boards.proofs.board.Board.take.Goals as goal

pub invariant_of-self : goal.invariant_of-self
invariant_of-self g c =
    let board = c.args.self.now in
    let done =
    take_done g.met.L.Line.lawful board.lines.now board.used board.within board.increasing c.args.line.now c.in-Ok.at
    c.in-Ok.ensures.stands _ c.remove_at.ensures in
    record { within = done.within; increasing = done.increasing }

pub returns-clause-lines : goal.returns-clause-lines
returns-clause-lines g c =
    let board = c.args.self.now in
    (take_done g.met.L.Line.lawful board.lines.now board.used board.within board.increasing c.args.line.now c.in-Ok.at c.in-Ok.ensures.stands _ c.remove_at.ensures).lines

pub returns-clause-behind : goal.returns-clause-behind
returns-clause-behind g c =
    let board = c.args.self.now in
    (take_done g.met.L.Line.lawful board.lines.now board.used board.within board.increasing c.args.line.now c.in-Ok.at c.in-Ok.ensures.stands _ c.remove_at.ensures).behind
