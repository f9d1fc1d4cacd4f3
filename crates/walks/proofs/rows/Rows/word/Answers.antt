use Rattle.std.proofs.Common.{rules}
use Rattle.walks.proofs.Snapshots.{rows_word}
use Rattle.walks.proofs.rows.Rows.word.Goals as goal

pub returns : goal.returns
returns c = rows_word c.args.self.now c.args.k (search rules)
