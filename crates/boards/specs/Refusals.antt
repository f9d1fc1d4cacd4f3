-- The number of each refusal of a board. Assumes nothing.
use Rattle.std.specs.Prelude.{ℕ}
use Rattle.boards.specs.declared.refusals.PutRefusal.{PutRefusal}
use Rattle.boards.specs.declared.refusals.PutRefusal.TheVariants.{Full, Present}
use Rattle.boards.specs.declared.refusals.TakeRefusal.{TakeRefusal}
use Rattle.boards.specs.declared.refusals.TakeRefusal.TheVariants.{Absent}

abbrev pub put_number : PutRefusal → ℕ
put_number Full = 11
put_number Present = 12

abbrev pub take_number : TakeRefusal → ℕ
take_number Absent = 13
