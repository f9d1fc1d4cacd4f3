-- The number of each refusal of a limit and of a step. Assumes nothing.
use Rattle.std.specs.Prelude.{ℕ}
use Rattle.finders.specs.declared.refusals.LimitRefusal.{LimitRefusal}
use Rattle.finders.specs.declared.refusals.LimitRefusal.TheVariants.{TooLarge}
use Rattle.finders.specs.declared.refusals.StepRefusal.{StepRefusal}
use Rattle.finders.specs.declared.refusals.StepRefusal.TheVariants.{Full}

abbrev pub limit_number : LimitRefusal → ℕ
limit_number TooLarge = 4

abbrev pub step_number : StepRefusal → ℕ
step_number Full = 8
