use Rattle.boards.proofs.Boards.{put_done}
use Rattle.boards.proofs.board.Board.put.Goals as goal

pub invariant_of-self : goal.invariant_of-self
invariant_of-self g c =
    let board = c.args.self.now in
    let done =
    put_done g.met.L.Line.lawful board.lines.now board.used board.within board.increasing c.args.line c.in-Err.at
    c.in-Err.ensures.stands c.capacity.ensures c.if-self-capacity.false _ c.insert_at.ensures in
    record { within = done.within; increasing = done.increasing }

pub returns-clause-lines : goal.returns-clause-lines
returns-clause-lines g c =
    let board = c.args.self.now in
    (put_done g.met.L.Line.lawful board.lines.now board.used board.within board.increasing c.args.line c.in-Err.at
    c.in-Err.ensures.stands c.capacity.ensures c.if-self-capacity.false _ c.insert_at.ensures).lines

pub returns-clause-behind : goal.returns-clause-behind
returns-clause-behind g c =
    let board = c.args.self.now in
    (put_done g.met.L.Line.lawful board.lines.now board.used board.within board.increasing c.args.line c.in-Err.at
    c.in-Err.ensures.stands c.capacity.ensures c.if-self-capacity.false _ c.insert_at.ensures).behind
