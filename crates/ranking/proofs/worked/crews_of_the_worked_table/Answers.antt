use Rattle.std.proofs.Common.{length, sym, ap}
use Rattle.ranking.proofs.WorkedTable.{worked_stands}
use Rattle.ranking.proofs.worked.crews_of_the_worked_table.Goals as goal

pub returns : goal.returns
returns c = record { count = sym (ap length worked_stands.in_order); worked = worked_stands }
