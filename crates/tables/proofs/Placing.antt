-- What it tells that a place is not refused. Assumes nothing.
use Rattle.std.proofs.Common.{◌≡◌, ℕ, ◌<◌, Ok, arith}
use Rattle.std.proofs.lemmas.Bool.Decides.{nat_tests}
use Rattle.tables.specs.Grid.{Grid}
use Rattle.tables.specs.Sheet.{placing}

pub placed : (g : Grid) (i j : ℕ) → placing g i j ≡ Ok tt → (i < g.members) × (j < g.slots)
placed g i j e = (grind (arith, nat_tests), grind (arith, nat_tests))
