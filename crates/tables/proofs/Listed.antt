-- Lists that increase: what stands in them, what a test keeps of them, and that two with the same lines are one. Assumes nothing.
use Rattle.std.proofs.Common.{◌≡◌, ℕ, zero, suc, ◌<◌, Bool, true, false, ◌⊎◌, List, [], ◌∷◌, ◌++◌, map, length, get_or, sym, refl, ap, ◌∙◌, subst, ap₂, inl, inr, ⊎_elim, suc-le-suc, le_of_suc-le-suc, arith}
use Rattle.std.specs.List.{ContainsAt, AllByRecursion}
use Rattle.std.proofs.ByRecursion.{All-append, All-map, All-weaker, all-has, All-get_or, all_has_itself}
use Rattle.std.proofs.lemmas.Bool.{both_ways, cond_both, cond-true, cases_order}
use Rattle.tables.specs.Crews.{kept}
use Rattle.tables.specs.Walk.{Increasing}

-- ---- what stands in a list

pub has_none : {A : Type 0} (x : A) → ContainsAt [] x → ⊥
has_none x h = let l = h.1 in omega arith

pub has_first : {A : Type 0} (x : A) (xs : List A) → ContainsAt (x ∷ xs) x
has_first x xs = (0, omega arith, λ d. refl)

pub has_later : {A : Type 0} (x y : A) (xs : List A) → ContainsAt xs y → ContainsAt (x ∷ xs) y
has_later x y xs h = (suc h.0, suc-le-suc h.1, h.2)

pub has_cases : {A : Type 0} (x y : A) (xs : List A) → ContainsAt (x ∷ xs) y → (x ≡ y) ⊎ ContainsAt xs y
has_cases {A} x y xs h = go h.0 h.1 h.2
  where
    go : (k : ℕ) → k < suc (length xs) → ((d : A) → get_or (x ∷ xs) k d ≡ y) → (x ≡ y) ⊎ ContainsAt xs y
    go zero l f = inl (f x)
    go (suc k) l f = inr (k, le_of_suc-le-suc l, f)

pub has_map : {A B : Type 0} (f : A → B) (x : A) (xs : List A) → ContainsAt xs x → ContainsAt (map f xs) (f x)
has_map f x [] h = absurd (has_none x h)
has_map f x (y ∷ ys) h = ⊎_elim (λ e. subst (λ z. ContainsAt (f y ∷ map f ys) (f z)) e (has_first (f y) (map f ys))) (λ t. has_later (f y) (f x) (map f ys) (has_map f x ys t)) (has_cases y x ys h)

-- a list in which nothing stands
pub none_stands : {A : Type 0} (xs : List A) → ((x : A) → ContainsAt xs x → ⊥) → xs ≡ []
none_stands [] h = refl
none_stands (x ∷ xs) h = absurd (h x (has_first x xs))

-- ---- what a test keeps

pub all_kept : {A : Type 0} (f : A → Bool) (P : A → Type 0) (xs : List A) → AllByRecursion P xs → AllByRecursion P (kept f xs)
unfolding kept
all_kept f P [] h = tt
all_kept f P (x ∷ xs) h = let rest = all_kept f P xs h.1 in cond_both (f x) (x ∷ kept f xs) (kept f xs) (AllByRecursion P) (λ _. (h.0, rest)) (λ _. rest)

pub kept_passes : {A : Type 0} (f : A → Bool) (xs : List A) → AllByRecursion (λ x. f x ≡ true) (kept f xs)
unfolding kept
kept_passes f [] = tt
kept_passes f (x ∷ xs) = let rest = kept_passes f xs in cond_both (f x) (x ∷ kept f xs) (kept f xs) (AllByRecursion (λ x. f x ≡ true)) (λ e. (e, rest)) (λ _. rest)

pub has_kept : {A : Type 0} (f : A → Bool) (x : A) (xs : List A) → ContainsAt xs x → f x ≡ true → ContainsAt (kept f xs) x
unfolding kept
has_kept f x [] h e = absurd (has_none x h)
has_kept {A} f x (y ∷ ys) h e =
    ⊎_elim (λ s. rw (cond-true (f y) (y ∷ kept f ys) (kept f ys) (ap f s ∙ e)) (rw s (has_first x (kept f ys))))
    (λ t. let rest = has_kept f x ys t e in cond_both (f y) (y ∷ kept f ys) (kept f ys) (λ l. ContainsAt l x) (λ _. has_later y x (kept f ys) rest) (λ _. rest))
    (has_cases y x ys h)

pub kept_has : {A : Type 0} (f : A → Bool) (x : A) (xs : List A) → ContainsAt (kept f xs) x → ContainsAt xs x × (f x ≡ true)
kept_has f x xs h =
    (all-has (ContainsAt xs) (kept f xs) x (all_kept f (ContainsAt xs) xs (all_has_itself xs)) h, all-has (λ x. f x ≡ true) (kept f xs) x (kept_passes f xs) h)

pub kept_all : {A : Type 0} (f : A → Bool) (xs : List A) → ((x : A) → f x ≡ true) → kept f xs ≡ xs
unfolding kept
kept_all f [] h = refl
kept_all f (x ∷ xs) h = cond-true (f x) (x ∷ kept f xs) (kept f xs) (h x) ∙ ap (λ l. x ∷ l) (kept_all f xs h)

-- ---- lists that increase

pub increasing_kept : {A : Type 0} (r : A → A → Bool) (f : A → Bool) (xs : List A) → Increasing r xs → Increasing r (kept f xs)
unfolding kept
increasing_kept r f [] h = tt
increasing_kept r f (x ∷ xs) h =
    let rest = increasing_kept r f xs h.1 in
    cond_both (f x) (x ∷ kept f xs) (kept f xs) (Increasing r) (λ _. (all_kept f (λ y. r x y ≡ true) xs h.0, rest)) (λ _. rest)

pub increasing_map : {A B : Type 0} (r : B → B → Bool) (s : A → A → Bool) (f : A → B) → ((a b : A) → r (f a) (f b) ≡ s a b) → (xs : List A) → Increasing s xs → Increasing r (map f xs)
increasing_map r s f same [] h = tt
increasing_map r s f same (x ∷ xs) h = (
  All-map (λ y. r (f x) y ≡ true) f xs (All-weaker (λ y. s x y ≡ true) (λ y. r (f x) (f y) ≡ true) (λ y e. same x y ∙ e) xs h.0),
  increasing_map r s f same xs h.1,
)

pub increasing_append : {A : Type 0} (r : A → A → Bool) (xs ys : List A) → Increasing r xs → Increasing r ys → AllByRecursion (λ x. AllByRecursion (λ y. r x y ≡ true) ys) xs → Increasing r (xs ++ ys)
increasing_append r [] ys hx hy h = hy
increasing_append r (x ∷ xs) ys hx hy h = (All-append (λ y. r x y ≡ true) xs ys hx.0 h.0, increasing_append r xs ys hx.1 hy h.1)

pub increasing_places : {A : Type 0} (r : A → A → Bool) (xs : List A) (i j : ℕ) (d : A) → Increasing r xs → i < j → j < length xs → r (get_or xs i d) (get_or xs j d) ≡ true
increasing_places r [] i j d h l m = absurd (omega arith)
increasing_places r (x ∷ xs) i zero d h l m = absurd (omega arith)
increasing_places r (x ∷ xs) zero (suc j) d h l m = All-get_or (λ y. r x y ≡ true) xs j d (le_of_suc-le-suc m) h.0
increasing_places r (x ∷ xs) (suc i) (suc j) d h l m = increasing_places r xs i j d h.1 (le_of_suc-le-suc l) (le_of_suc-le-suc m)

module _ {A : Type 0} (r : A → A → Bool) (irreflexive : (a : A) → r a a ≡ false) where
  apart : (xs : List A) (i j : ℕ) (d : A) → Increasing r xs → i < j → j < length xs → get_or xs i d ≡ get_or xs j d → ⊥
  apart xs i j d h l m e =
      both_ways (r (get_or xs j d) (get_or xs j d)) (irreflexive (get_or xs j d)) (subst (λ x. r x (get_or xs j d) ≡ true) e (increasing_places r xs i j d h l m))

  -- in a list that increases nothing stands twice
  pub increasing_once : (xs : List A) → Increasing r xs → (i j : ℕ) (d : A) → i < length xs → j < length xs → get_or xs i d ≡ get_or xs j d → i ≡ j
  increasing_once xs h i j d l m e =
      ⊎_elim (λ s. s) (λ o. absurd (⊎_elim (λ b. apart xs i j d h b m e) (λ b. apart xs j i d h b l (sym e)) o)) (cases_order i j)

  -- what follows the first line of two lists with the same first line
  rest_stands : (x : A) (xs ys : List A) → Increasing r (x ∷ xs) → ((z : A) → ContainsAt (x ∷ xs) z → ContainsAt (x ∷ ys) z) → (z : A) → ContainsAt xs z → ContainsAt ys z
  rest_stands x xs ys h f z t =
      ⊎_elim (λ e. absurd (both_ways (r z z) (irreflexive z) (subst (λ y. r y z ≡ true) e (all-has (λ y. r x y ≡ true) xs z h.0 t)))) (λ u. u) (has_cases x z ys (f z (has_later x z xs t)))

  -- two lists that increase and in which the same lines stand are one
  pub increasing_same : ((a b : A) → r a b ≡ true → r b a ≡ false) → (xs ys : List A) → Increasing r xs → Increasing r ys → ((z : A) → ContainsAt xs z → ContainsAt ys z) → ((z : A) → ContainsAt ys z → ContainsAt xs z) → xs ≡ ys
  increasing_same asym [] [] hx hy f g = refl
  increasing_same asym [] (y ∷ ys) hx hy f g = absurd (has_none y (g y (has_first y ys)))
  increasing_same asym (x ∷ xs) [] hx hy f g = absurd (has_none x (f x (has_first x xs)))
  increasing_same asym (x ∷ xs) (y ∷ ys) hx hy f g =
      let first : x ≡ y = ⊎_elim (λ e. sym e) (λ t. ⊎_elim (λ e. e) (λ u. absurd (both_ways (r y x) (asym x y (all-has (λ z. r x z ≡ true) xs y hx.0 u)) (all-has (λ z. r y z ≡ true) ys x hy.0 t))) (has_cases x y xs (g y (has_first y ys)))) (has_cases y x ys (f x (has_first x xs))) in
      let hy' : Increasing r (x ∷ ys) = subst (λ z. Increasing r (z ∷ ys)) (sym first) hy in
      let f' : (z : A) → ContainsAt (x ∷ xs) z → ContainsAt (x ∷ ys) z = λ z h. subst (λ w. ContainsAt (w ∷ ys) z) (sym first) (f z h) in
      let g' : (z : A) → ContainsAt (x ∷ ys) z → ContainsAt (x ∷ xs) z = λ z h. g z (subst (λ w. ContainsAt (w ∷ ys) z) first h) in
      ap₂ (λ z l. z ∷ l) first (increasing_same asym xs ys hx.1 hy.1 (rest_stands x xs ys hx f') (rest_stands x ys xs hy' g'))
