-- The numbers below n from the highest down, as a range gives them that is turned round. Assumes nothing.
use Rattle.std.proofs.Common.{◌≡◌, ℕ, zero, suc, ◌+◌, ◌-◌, ◌<◌, List, length, Option, subst, ◌∷◌, [], sym, refl, ap, ◌∙◌, zero-add, arith}
use Rattle.std.specs.Iterator.{AlwaysYields}
use Rattle.std.specs.Iterator.Adapters.{rev_source}
use Rattle.std.specs.Option.{MatchOption}
use Rattle.std.specs.declared.iter.Rev.{Rev}
use Rattle.std.specs.declared.ops.Range.{Range}
use Rattle.std.proofs.iter.Yields.{listed}
use Rattle.std.proofs.lemmas.Iterator.{YieldsList}

-- the numbers below n from the highest down
abbrev pub down : ℕ → List ℕ
down zero = []
down (suc n) = n ∷ down n

-- n numbers from a on, from the highest down
abbrev down_to : ℕ → ℕ → List ℕ
down_to a zero = []
down_to a (suc n) = (a + n) ∷ down_to a n

down_all : (n : ℕ) → down_to 0 n ≡ down n
down_all zero = refl
down_all (suc n) = ap (λ k. k ∷ down_to 0 n) (zero-add n) ∙ ap (λ l. n ∷ l) (down_all n)

counted : (a n m x : ℕ) → n ≡ suc m → x ≡ a + m → down_to a n ≡ x ∷ down_to a m
counted a n m x e f = ap (down_to a) e ∙ ap (λ k. k ∷ down_to a m) (sym f)

-- a range that is turned round
abbrev pub turned_steps : Rev (Range ℕ) → Option ℕ → Rev (Range ℕ) → Type 0
turned_steps s r t =
    ((rev_source t).start ≡ (rev_source s).start)
    × MatchOption r (((rev_source s).end - (rev_source s).start ≡ 0) × ((rev_source t).end ≡ (rev_source s).end))
    (λ x. (0 < (rev_source s).end - (rev_source s).start) × (x ≡ (rev_source t).end) × ((rev_source s).end ≡ (rev_source t).end + 1))

abbrev left : Rev (Range ℕ) → List ℕ
left s = down_to (rev_source s).start ((rev_source s).end - (rev_source s).start)

turned_gives : (s : Rev (Range ℕ)) → AlwaysYields turned_steps (λ x. x) s (left s)
turned_gives =
    listed turned_steps (λ x. x) left
    (λ s t p. ap (λ n. length (down_to (rev_source s).start n)) p.1.0)
    (λ s x t p. counted (rev_source s).start _ ((rev_source t).end - (rev_source t).start) x (omega (arith, p.0, p.1.0, p.1.2)) (omega (arith, p.0, p.1.0, p.1.1, p.1.2)) ∙ ap (λ a. x ∷ down_to a ((rev_source t).end - (rev_source t).start)) (sym p.0))

pub YieldsList-from_turned : {s : Rev (Range ℕ)} (n : ℕ) → rev_source s ≡ record { start = 0; end = n } → YieldsList turned_steps (λ x. x) s (down n)
YieldsList-from_turned {s} n e = record { runs = subst (AlwaysYields turned_steps (λ x. x) s) (ap (λ r. down_to r.start (r.end - r.start)) e ∙ ap (down_to 0) (omega arith) ∙ down_all n) (turned_gives s) }
