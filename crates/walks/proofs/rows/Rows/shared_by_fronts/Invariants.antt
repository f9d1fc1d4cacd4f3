use Rattle.std.proofs.Common.{◌≡◌, ℕ, ◌+◌, ◌%◌, ◌^◌, ◌<◌, length, get_or}
use Rattle.tables.specs.Grid.{shared_slots}
use Rattle.walks.specs.Rows.{rows_grid}
use Rattle.walks.proofs.rows.Rows.shared_by_fronts.Given as goal

abbrev pub invariant-loop-i : goal.invariant-loop-i
invariant-loop-i l =
    (length l.shared ≡ 65)
    × (l.slots ≡ shared_slots (rows_grid l.self) (l.word % 2 ^ l.i))
    × ((k : ℕ) → k < l.i + 1 → get_or l.shared k 0 ≡ shared_slots (rows_grid l.self) (l.word % 2 ^ k))
