-- That the grid of a word table is one that a table may mean. Assumes nothing.
use Rattle.std.specs.Prelude.{ℕ, ◌≤◌, ◌&&◌, List}
use Rattle.std.proofs.Common.{ltb}
use Rattle.std.proofs.lemmas.Bool.{and_parts, ltb-true}
use Rattle.tables.specs.Filed.{held}
use Rattle.tables.specs.Grid.{Proper}
use Rattle.views.specs.Lent.{lent_grid}

pub lent_proper : (n m : ℕ) (words : List ℕ) → 1 ≤ n → n ≤ 64 → 1 ≤ m → m ≤ 64 → Proper (lent_grid n m words)
lent_proper n m words some_member members_fit some_slot slots_fit = record {
  some_member = some_member;
  members_fit = members_fit;
  some_slot = some_slot;
  slots_fit = slots_fit;
  inside = λ i j h.
      let both = and_parts (ltb i n) (ltb j m) (and_parts (ltb i n && ltb j m) (held words i j) h).0 in
      (ltb-true i n both.0, ltb-true j m both.1);
}
