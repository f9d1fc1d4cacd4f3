-- The grid that slot words stand for. Assumes nothing.
use Rattle.tables.specs.Filed.{held}
use Rattle.tables.specs.Grid.{Grid}
use Rattle.walks.specs.declared.rows.Rows.{Rows}

abbrev pub rows_grid : Rows → Grid
rows_grid r = record { members = r.size.members; slots = r.size.slots; marked = held r.words }
