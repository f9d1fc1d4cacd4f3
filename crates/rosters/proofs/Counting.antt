-- How the count of marked pairs changes with one pair. Assumes nothing.
use Rattle.std.proofs.Common.{◌≡◌, ℕ, zero, suc, ◌+◌, ◌*◌, ◌<◌, ◌≤◌, Bool, true, false, cond, ◌&&◌, eqb, sym, refl, ap, ◌∙◌, ap₂, ⊎_elim, suc-mul, zero-add, arith}
use Rattle.std.proofs.lemmas.Bool.{cases_eq, eq-eqb, ne_eqb, cond-true, cond-false, and_from, and_left, and_right}
use Rattle.rosters.specs.Marks.{total, marks}

pub total_same : (n : ℕ) (f g : ℕ → ℕ) → ((a : ℕ) → a < n → g a ≡ f a) → total g n ≡ total f n
unfolding total
total_same zero f g same = refl
total_same (suc n) f g same = ap₂ ◌+◌ (same n (omega arith)) (total_same n f g (λ a l. same a (omega arith)))

-- a sum in which one term has grown by one
pub total_more : (n : ℕ) (f g : ℕ → ℕ) (i : ℕ) → i < n → g i ≡ f i + 1 → ((a : ℕ) → (a ≡ i → ⊥) → g a ≡ f a) → total g n ≡ total f n + 1
unfolding total
total_more zero f g i within more same = absurd (omega arith)
total_more (suc n) f g i within more same =
    ⊎_elim
    (λ e.
    let here : g n ≡ f n + 1 = ap g (sym e) ∙ more ∙ ap (λ k. f k + 1) e in
    let rest : total g n ≡ total f n = total_same n f g (λ a l. same a (omega arith)) in
    omega arith)
    (λ apart.
    let here : g n ≡ f n = same n (λ e. apart (sym e)) in
    let rest : total g n ≡ total f n + 1 = total_more n f g i (omega arith) more same in
    omega arith)
    (cases_eq i n)

pub total_most : (n k : ℕ) (f : ℕ → ℕ) → ((a : ℕ) → f a ≤ k) → total f n ≤ n * k
unfolding total
total_most zero k f most = omega arith
total_most (suc n) k f most = let e = suc-mul n k in let h = most n in let rest = total_most n k f most in omega arith

one_most : (b : Bool) → cond b 1 0 ≤ 1
one_most true = omega arith
one_most false = omega arith

pub marks_most : (n m : ℕ) (f : ℕ → ℕ → Bool) → marks n m f ≤ n * m
unfolding marks
marks_most n m f = total_most n m _ (λ i. let h = total_most m 1 (λ j. cond (f i j) 1 0) (λ j. one_most (f i j)) in omega arith)

-- f with pair (i, j) marked besides
abbrev pub With : (ℕ → ℕ → Bool) → ℕ → ℕ → (ℕ → ℕ → Bool) → Type 0
With f i j g = (a b : ℕ) → g a b ≡ cond (eqb a i && eqb b j) true (f a b)

pub marks_more : (n m : ℕ) (f g : ℕ → ℕ → Bool) (i j : ℕ) → i < n → j < m → f i j ≡ false → With f i j g → marks n m g ≡ marks n m f + 1
unfolding marks
marks_more n m f g i j hi hj unmarked with =
    total_more n _ _ i hi
    (total_more m _ _ j hj
    (ap (λ b. cond b 1 0) (with i j ∙ cond-true _ true (f i j) (and_from _ _ (eq-eqb i i refl) (eq-eqb j j refl))) ∙ ap (λ b. cond b 1 0 + 1) (sym unmarked))
    (λ b apart. ap (λ b. cond b 1 0) (with i b ∙ cond-false _ true (f i b) (and_right _ _ (ne_eqb b j apart)))))
    (λ a apart. total_same m _ _ (λ b l. ap (λ b. cond b 1 0) (with a b ∙ cond-false _ true (f a b) (and_left _ _ (ne_eqb a i apart)))))

zeros : (k : ℕ) → total (λ _. 0) k ≡ 0
unfolding total
zeros zero = refl
zeros (suc k) = zero-add _ ∙ zeros k

pub marks_none : (n m : ℕ) (f : ℕ → ℕ → Bool) → ((a b : ℕ) → f a b ≡ false) → marks n m f ≡ 0
unfolding marks
marks_none n m f none =
    total_same n (λ _. 0) _ (λ i l. total_same m (λ _. 0) _ (λ j k. ap (λ b. cond b 1 0) (none i j)) ∙ zeros m) ∙ zeros n
