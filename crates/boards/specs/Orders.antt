-- What the order of a kind of line keeps to. Assumes nothing.
use Rattle.std.specs.Prelude.{◌≡◌}
use Rattle.std.proofs.Common.{refl, ap}
use Rattle.std.specs.declared.cmp.Ordering.TheVariants.{Less, Equal, Greater}
use Rattle.std.specs.declared.cmp.Ordering.{Ordering}
use Rattle.std.specs.Cmp.{IsTotalOrder, tied_itself}
use Rattle.std.specs.Ordering.{ordering_reverse, ordering_then}

-- same holds exactly for equal lines, before seen from the other line is after, and before carries over a third line
pub record Laws {L : Type 0} (order : L → L → Ordering) : Type 0 where
  pub itself : (x : L) → order x x ≡ Equal
  pub same : (x y : L) → order x y ≡ Equal → x ≡ y
  pub turned : (x y : L) → order y x ≡ ordering_reverse (order x y)
  pub chain : (x y z : L) → order x y ≡ Less → order y z ≡ Less → order x z ≡ Less

-- a total order keeps to them where it tells any two different lines apart
pub laws_of_total : {L : Type 0} {order : L → L → Ordering} → IsTotalOrder order → ((x y : L) → order x y ≡ Equal → x ≡ y) → Laws order
laws_of_total total same = record {
  itself = tied_itself total;
  same = same;
  turned = λ x y. total.antisymm y x;
  chain = total.trans;
}

-- an order that keeps to them is total, and tells any two different lines apart
pub total_of_laws : {L : Type 0} {order : L → L → Ordering} → Laws order → IsTotalOrder order × ((x y : L) → order x y ≡ Equal → x ≡ y)
total_of_laws {L} {order} laws = (
  record {
    antisymm = λ x y. laws.turned y x;
    trans = laws.chain;
    congr = λ x y z e. ap (λ w. order w z) (laws.same x y e);
  },
  laws.same,
)

-- two orders, one after another, say the same only where both do
pub both_equal : {L : Type 0} (first second : L → L → Ordering) (x y : L) → ordering_then (first x y) (second x y) ≡ Equal → (first x y ≡ Equal) × (second x y ≡ Equal)
both_equal {L} first second x y e = by_cases (first x y) (second x y) e
  where
    by_cases : (r s : Ordering) → ordering_then r s ≡ Equal → (r ≡ Equal) × (s ≡ Equal)
    by_cases Less s e = (e, cc)
    by_cases Equal s e = (refl, e)
    by_cases Greater s e = (e, cc)
