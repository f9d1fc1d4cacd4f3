-- The lines that are made of a crew, the crew that they tell back, and their order. Assumes nothing.
use Rattle.std.specs.Prelude.{◌≡◌}
use Rattle.std.specs.declared.cmp.Ordering.{Ordering}
use Rattle.std.specs.declared.cmp.Ordering.TheVariants.{Equal}
use Rattle.std.specs.Cmp.{IsTotalOrder, on_total}
use Rattle.tables.specs.declared.crew.Crew.{Crew}
use Rattle.boards.specs.Orders.{Laws, laws_of_total}
use Rattle.ranking.specs.declared.ranked.Ranked.{Ranked}

module _ {R : Type 0} where
  abbrev pub made : Crew → Ranked R
  made c = record { crew = c; by = record {} }

  abbrev pub told : Ranked R → Crew
  told l = l.crew

  -- the order of their crews
  abbrev pub ranked_order : (Crew → Crew → Ordering) → Ranked R → Ranked R → Ordering
  ranked_order order x y = order x.crew y.crew

  module _ {order : Crew → Crew → Ordering} (total : IsTotalOrder order) (same : (a b : Crew) → order a b ≡ Equal → a ≡ b) where
    pub ranked_total : IsTotalOrder (ranked_order order)
    ranked_total = on_total told total

    pub ranked_same : (x y : Ranked R) → ranked_order order x y ≡ Equal → x ≡ y
    ranked_same x y e j = record { crew = same x.crew y.crew e j; by = x.by }

    pub ranked_laws : Laws (ranked_order order)
    ranked_laws = laws_of_total ranked_total ranked_same
