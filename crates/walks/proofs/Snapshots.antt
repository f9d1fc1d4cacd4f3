-- The grid that slot words stand for is proper, and its slot words are these words. Assumes nothing.
use Rattle.std.proofs.Common.{◌≡◌, ℕ, ◌^◌, ◌<◌, get_or, refl}
use Rattle.words.proofs.Bits.{gathered}
use Rattle.tables.specs.Filed.{held}
use Rattle.tables.specs.Grid.{Proper, slot_word}
use Rattle.walks.specs.Rows.{rows_grid}
use Rattle.walks.specs.declared.rows.Rows.{Rows}

pub rows_proper : (r : Rows) → Proper (rows_grid r)
rows_proper r = record {
  some_member = r.size.some_member;
  members_fit = r.size.members_fit;
  some_slot = r.size.some_slot;
  slots_fit = r.size.slots_fit;
  inside = r.inside;
}

pub rows_word : (r : Rows) (k : ℕ) → get_or r.words k 0 < 2 ^ 64 → get_or r.words k 0 ≡ slot_word (rows_grid r) k
unfolding slot_word
rows_word r k fits = gathered (get_or r.words k 0) r.size.slots (held r.words k) r.size.slots_fit fits (λ j. refl) (λ j h. (r.inside k j h).1)
