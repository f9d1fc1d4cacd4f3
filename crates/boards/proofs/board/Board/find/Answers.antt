use Rattle.std.proofs.Common.{rules}
use Rattle.std.proofs.lemmas.Fn.{always_returns_same}
use Rattle.boards.proofs.Standing.{searched}
use Rattle.boards.proofs.board.Board.find.Goals as goal

pub returns-clause-stands : goal.returns-clause-stands
returns-clause-stands g c =
    let facts = rw c.in_use.ensures at c.binary_search_by.ensures in
    let line = c.args.line.now in
    searched g.met.L.Line.lawful _ line _ c.args.self.now.increasing facts.bound
    (facts.position (λ y. g.L.Line.order y line) (always_returns_same _ _ _ (λ a r f' k. search rules)))
