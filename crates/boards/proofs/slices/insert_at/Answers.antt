use Rattle.boards.proofs.Moves.{moved_up}
use Rattle.boards.proofs.slices.insert_at.Goals as goal

pub returns : goal.returns
returns g c = rw c.copy_within.ensures.after (moved_up c.args.lines.now c.args.at c.args.line c.requires)
