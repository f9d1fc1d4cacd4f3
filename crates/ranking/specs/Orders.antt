-- The order of crew lines and of seat lines. Assumes nothing.
use Rattle.std.specs.Prelude.{ℕ, ◌*◌, count_ones}
use Rattle.std.specs.declared.cmp.Ordering.{Ordering}
use Rattle.std.specs.Ordering.{nat_cmp, on, flip_args, then_cmp}
use Rattle.words.specs.Order.{word_order}
use Rattle.tables.specs.declared.crew.Crew.{Crew}

-- by the member words, and by the slot words where these are equal
abbrev pub crew_order : Crew → Crew → Ordering
crew_order = then_cmp (on (λ c. c.members) word_order) (on (λ c. c.slots) word_order)

-- the seats of a crew: its members times its slots
unfoldable pub seats_of : Crew → ℕ
seats_of c = count_ones c.members * count_ones c.slots

-- more seats first, ties in crew order
abbrev pub seat_order : Crew → Crew → Ordering
seat_order = then_cmp (flip_args (on seats_of nat_cmp)) crew_order
