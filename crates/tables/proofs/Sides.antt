-- The crew of two words: there is one where neither is empty, and it has these words. Assumes nothing.
use Rattle.std.proofs.Common.{◌≡◌, ℕ, zero, suc, ◌<◌, true, eqb, Some, None, sym, refl, ◌∙◌, arith}
use Rattle.std.proofs.lemmas.Bool.{cond-true, cond-false, eq-eqb, ne_eqb, or_left, or_right, or_from}
use Rattle.tables.specs.Sides.{crew_of}

pub none_some : {A : Type 0} (x : A) → None ≡ Some x → ⊥
none_some x e = let z : ◌≡◌ {A = ℕ} 0 1 = cc in omega arith

pub crew_some : (x y : ℕ) → 0 < x → 0 < y → crew_of x y ≡ Some (x, y)
crew_some x y hx hy = cond-false _ None (Some (x, y)) (or_from _ _ (ne_eqb x 0 (omega arith)) (ne_eqb y 0 (omega arith)))

pub crew_none : (x y : ℕ) → x ≡ 0 → crew_of x y ≡ None
crew_none x y e = cond-true _ None (Some (x, y)) (or_left _ _ (eq-eqb x 0 e))

pub crew_of_some : (x y : ℕ) (c : ℕ × ℕ) → crew_of x y ≡ Some c → (c ≡ (x, y)) × (0 < x) × (0 < y)
crew_of_some zero y c e = absurd (none_some c e)
crew_of_some (suc x) zero c e = absurd (none_some c (sym (cond-true _ None (Some (suc x, 0)) (or_right (eqb (suc x) 0) true refl)) ∙ e))
crew_of_some (suc x) (suc y) c e =
    let made = crew_some (suc x) (suc y) (omega arith) (omega arith) in
    let same : c ≡ (suc x, suc y) = cc in
    (same, omega arith, omega arith)

-- words that are not empty make a crew
pub crew_of_made : (x y : ℕ) → 0 < x → 0 < y → crew_of x y ≡ None → ⊥
crew_of_made x y hx hy e = none_some (x, y) (sym e ∙ crew_some x y hx hy)
