-- The number of each cause of a fault in a text. Assumes nothing.
use Rattle.std.specs.Prelude.{ℕ}
use Rattle.tables.specs.Refusals.{size_number, roster_number}
use Rattle.texts.specs.declared.refusals.Cause.{Cause}
use Rattle.texts.specs.declared.refusals.Cause.TheVariants.{Form, Size, Roster}

-- the number of the cause of a fault
abbrev pub cause_number : Cause → ℕ
cause_number Form = 5
cause_number (Size refusal) = size_number refusal
cause_number (Roster refusal) = roster_number refusal
