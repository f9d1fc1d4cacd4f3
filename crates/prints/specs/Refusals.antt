-- The number of the refusal of a buffer. Assumes nothing.
use Rattle.std.specs.Prelude.{ℕ}
use Rattle.prints.specs.declared.refusals.BufferRefusal.{BufferRefusal}
use Rattle.prints.specs.declared.refusals.BufferRefusal.TheVariants.{TooShort}

-- the number of the refusal of a buffer
abbrev pub buffer_number : BufferRefusal → ℕ
buffer_number TooShort = 6
