-- A crew by its two words. Assumes nothing.
use Rattle.std.specs.Prelude.{ℕ, cond, ◌||◌, Some, None, Option, ◌==◌}
use Rattle.tables.specs.declared.crew.Crew.{Crew}

-- the member word and the slot word of a crew
abbrev pub sides : Crew → ℕ × ℕ
sides c = (c.members, c.slots)

-- the crew of two words: none where a side is empty
abbrev pub crew_of : ℕ → ℕ → Option (ℕ × ℕ)
crew_of x y = cond (x == 0 || y == 0) None (Some (x, y))
