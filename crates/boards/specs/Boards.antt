-- What a board keeps: its lines, and the memory that it was lent. Assumes nothing.
use Rattle.std.specs.Prelude.{List}
use Rattle.std.specs.Borrow.{GName}
use Rattle.boards.specs.Lines.{in_use}
use Rattle.boards.specs.declared.board.Board.{Board}
use Rattle.boards.specs.declared.line.Line as line

module _ {L : Type 0} {l : line.Ghosts L} where
  -- the lines on a board
  abbrev pub lines_of : Board L l → List L
  lines_of board = in_use board.lines.now board.used

  -- the memory that it was lent, and the loan's name
  abbrev pub memory_of : Board L l → List L
  memory_of board = board.lines.now

  abbrev pub loan_of : Board L l → GName
  loan_of board = board.lines.ghost_name
