use Rattle.std.proofs.Common.{◌≡◌, min, arith}
use Rattle.std.specs.List.Sorted.{IsStrictlySortedBy}
use Rattle.boards.specs.Lines.{places}
use Rattle.boards.proofs.board.Board.new.Goals as goal

pub invariant_of-result : goal.invariant_of-result
unfolding IsStrictlySortedBy
invariant_of-result g c = record { within = omega arith; increasing = let none : min 0 (places c.args.lines.now) ≡ 0 = omega arith in rw none tt }
