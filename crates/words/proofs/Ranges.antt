-- Numbers in a row: the last of them stands at the end, and what a test says of all of them. Assumes nothing.
use Rattle.std.proofs.Common.{◌≡◌, ℕ, zero, suc, ◌+◌, Bool, true, cond, ◌&&◌, [], ◌∷◌, ◌++◌, map, filter, sym, refl, ap, ◌∙◌, zero-add, add-one, map-id, arith}
use Rattle.std.specs.List.{range_with_len, list_all}
use Rattle.std.proofs.lemmas.List.FromFn.{map-range_with_len_more}
use Rattle.std.proofs.lemmas.List.Elements.{filter-append}
use Rattle.std.proofs.lemmas.List.Folds.{list_all-append}
use Rattle.words.specs.Bits.{every}

pub range_more : (a n : ℕ) → range_with_len a (suc n) ≡ range_with_len a n ++ (a + n) ∷ []
range_more a n =
    sym (map-id (range_with_len a (suc n))) ∙ ap (λ k. map (λ x. x) (range_with_len a k)) (sym (add-one n))
    ∙ map-range_with_len_more (λ x. x) a n (a + n) refl ∙ ap (λ l. l ++ (a + n) ∷ []) (map-id (range_with_len a n))

-- the numbers below n + 1
pub below_more : (n : ℕ) → range_with_len 0 (suc n) ≡ range_with_len 0 n ++ n ∷ []
below_more n = range_more 0 n ∙ ap (λ k. range_with_len 0 n ++ k ∷ []) (zero-add n)

-- those that pass a test
pub passing_more : (p : ℕ → Bool) (n : ℕ) → filter p (range_with_len 0 (suc n)) ≡ filter p (range_with_len 0 n) ++ cond (p n) (n ∷ []) []
passing_more p n = ap (filter p) (below_more n) ∙ filter-append p (range_with_len 0 n) (n ∷ [])

one_more : (a b : Bool) → (a && (b && true)) ≡ (b && a)
one_more a b = grind arith

pub every_all : (p : ℕ → Bool) (n : ℕ) → list_all p (range_with_len 0 n) ≡ every p n
unfolding every
every_all p zero = refl
every_all p (suc n) =
    ap (list_all p) (below_more n) ∙ list_all-append p (range_with_len 0 n) (n ∷ []) ∙ one_more (list_all p (range_with_len 0 n)) (p n)
    ∙ ap (λ b. p n && b) (every_all p n)
