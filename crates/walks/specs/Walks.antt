-- Where a walk stands after it was asked. Assumes nothing.
use Rattle.std.specs.Prelude.{ℕ, Some, None, Option}
use Rattle.words.specs.Order.{next_word}
use Rattle.tables.specs.declared.crew.Crew.{Crew}

-- the position just past the crew that was given; where none was, the position stays
abbrev pub past : Option Crew → ℕ → ℕ
past None p = p
past (Some c) p = next_word c.members
