-- What each kind of roster means, as a grid and with its free places. Assumes nothing.
use Rattle.rosters.specs.Coded.{coded_grid}
use Rattle.tables.specs.Grid.{Grid}
use Rattle.tables.specs.Filed.{held}
use Rattle.tables.specs.Sheet.{Sheet, sheet}
use Rattle.rosters.specs.declared.bit_roster.BitRoster.{BitRoster}
use Rattle.rosters.specs.declared.list_roster.ListRoster.{ListRoster}

abbrev pub bit_grid : BitRoster → Grid
bit_grid r = record { members = r.size.members; slots = r.size.slots; marked = held r.rows }

abbrev pub list_grid : ListRoster → Grid
list_grid r = coded_grid r.size.members r.size.slots r.used r.codes.places

abbrev pub bit_sheet : BitRoster → Sheet
bit_sheet r = sheet (bit_grid r) r.free

abbrev pub list_sheet : ListRoster → Sheet
list_sheet r = sheet (list_grid r) r.free
