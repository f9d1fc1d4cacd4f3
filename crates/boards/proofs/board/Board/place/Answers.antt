use Rattle.std.proofs.Common.{◌≡◌, suc, if◌then◌else◌, Some, None, sym, ◌∙◌, rules}
use Rattle.boards.specs.Lines.{on_board, count_before}
use Rattle.boards.specs.Boards.{lines_of}
use Rattle.boards.proofs.Standing.{place_counted}
use Rattle.boards.proofs.board.Board.place.Goals as goal

pub returns : goal.returns
returns g c =
    let xs = lines_of c.args.self.now in
    let counted : c.map.result ≡ (if on_board g.L.Line.order xs c.args.line.now then Some (suc (count_before g.L.Line.order xs c.args.line.now)) else None) = search rules in
    record { found = counted ∙ sym (place_counted g.met.L.Line.lawful xs c.args.line.now c.args.self.now.increasing); counted = counted }
