-- The member words of a list of crews: which words stand in it, each once, and one more; and a list of different words is no longer than one that
-- holds them all. Assumes nothing.
use Rattle.std.proofs.Common.{◌≡◌, ℕ, zero, suc, ◌<◌, ◌≤◌, false, not, eqb, List, [], ◌∷◌, ◌++◌, map, length, get_or, take, Decides, sym, refl, ◌∙◌, subst, ⊎_elim, suc-le-suc, arith}
use Rattle.std.specs.List.{ContainsAt}
use Rattle.std.proofs.ByRecursion.{all-has, All-take, all_has_itself}
use Rattle.std.proofs.lemmas.List.{get_or_default, get_or_append_left, get_or_push, length_push}
use Rattle.std.proofs.lemmas.Bool.{both_ways, cases_eq, cond_both, cond-false, eq-eqb, ne_eqb, not_from_true, not_from_false}
use Rattle.std.proofs.lemmas.Bool.Decides.{Decides-eqb, Decides-or, Decides-like}
use Rattle.tables.specs.Crews.{kept}
use Rattle.tables.proofs.Listed.{has_none, has_first, has_later, has_cases, has_kept}
use Rattle.finders.specs.Finder.{members_at}
use Rattle.finders.specs.Found.{has_members}

abbrev pub words : List (ℕ × ℕ) → List ℕ
words l = map (λ c. c.0) l

pub at_words : (l : List (ℕ × ℕ)) (k : ℕ) → get_or (words l) k 0 ≡ members_at l k
at_words [] k = refl
at_words (c ∷ cs) zero = refl
at_words (c ∷ cs) (suc k) = at_words cs k

pub held_tells : (x : ℕ) (l : List (ℕ × ℕ)) → Decides (has_members x l) (ContainsAt (words l) x)
held_tells x [] = (λ e. absurd (both_ways false refl e), λ h. absurd (has_none x h))
held_tells x (c ∷ cs) =
    Decides-like _ (⊎_elim (λ e. subst (λ y. ContainsAt (c.0 ∷ words cs) y) e (has_first c.0 (words cs))) (has_later c.0 x (words cs))) (has_cases c.0 x (words cs))
    (Decides-or (eqb c.0 x) (has_members x cs) (Decides-eqb c.0 x) (held_tells x cs))

pub has_take : {A : Type 0} (n : ℕ) (l : List A) (x : A) → ContainsAt (take n l) x → ContainsAt l x
has_take n l x h = all-has (ContainsAt l) (take n l) x (All-take (ContainsAt l) n l (all_has_itself l)) h

-- ---- each word once

abbrev pub Once : List ℕ → Type 0
Once l = (i j : ℕ) → i < length l → j < length l → get_or l i 0 ≡ get_or l j 0 → i ≡ j

pub once_none : Once []
once_none i j li lj e = absurd (omega arith)

module _ (x : ℕ) (l : List ℕ) (once : Once l) (fresh : ContainsAt l x → ⊥) where
  pushed : (i : ℕ) → i < length l → get_or (l ++ x ∷ []) i 0 ≡ x → ⊥
  pushed i h e = fresh (i, h, λ d. get_or_default l i d 0 h ∙ sym (get_or_append_left l (x ∷ []) 0 i h) ∙ e)

  pub once_push : Once (l ++ x ∷ [])
  once_push i j hi hj e =
      let long = length_push l x in
      ⊎_elim
      (λ ei. ⊎_elim (λ ej. ei ∙ sym ej) (λ nj. absurd (pushed j (omega arith) (sym e ∙ get_or_push l x 0 i (sym ei)))) (cases_eq j (length l)))
      (λ ni. ⊎_elim
      (λ ej. absurd (pushed i (omega arith) (e ∙ get_or_push l x 0 j (sym ej))))
      (λ nj.
      let li : i < length l = omega arith in
      let lj : j < length l = omega arith in
      once i j li lj (sym (get_or_append_left l (x ∷ []) 0 i li) ∙ e ∙ get_or_append_left l (x ∷ []) 0 j lj))
      (cases_eq j (length l)))
      (cases_eq i (length l))

-- ---- different words are no more than there are words

-- the words of a list but for x
without : ℕ → List ℕ → List ℕ
without x l = kept (λ y. not (eqb y x)) l

without_short : (x : ℕ) (l : List ℕ) → length (without x l) ≤ length l
unfolding without kept
without_short x [] = omega arith
without_short x (y ∷ ys) = let rest = without_short x ys in cond_both (not (eqb y x)) (y ∷ without x ys) (without x ys) (λ m. length m ≤ suc (length ys)) (λ _. suc-le-suc rest) (λ _. omega arith)

without_shorter : (x : ℕ) (l : List ℕ) → ContainsAt l x → length (without x l) < length l
unfolding without kept
without_shorter x [] h = absurd (has_none x h)
without_shorter x (y ∷ ys) h =
    ⊎_elim
    (λ e. subst (λ m. length m < suc (length ys)) (sym (cond-false (not (eqb y x)) (y ∷ without x ys) (without x ys) (not_from_true _ (eq-eqb y x e)))) (suc-le-suc (without_short x ys)))
    (λ t. let rest = without_shorter x ys t in cond_both (not (eqb y x)) (y ∷ without x ys) (without x ys) (λ m. length m < suc (length ys)) (λ _. suc-le-suc rest) (λ _. omega arith))
    (has_cases y x ys h)

has_without : (x y : ℕ) (l : List ℕ) → ContainsAt l y → (y ≡ x → ⊥) → ContainsAt (without x l) y
unfolding without
has_without x y l h other = has_kept (λ y. not (eqb y x)) y l h (not_from_false _ (ne_eqb y x other))

once_rest : (x : ℕ) (l : List ℕ) → Once (x ∷ l) → Once l
once_rest x l once i j hi hj e = let s = once (suc i) (suc j) (suc-le-suc hi) (suc-le-suc hj) e in omega arith

once_first : (x : ℕ) (l : List ℕ) → Once (x ∷ l) → ContainsAt l x → ⊥
once_first x l once h = let s = once (suc h.0) 0 (suc-le-suc h.1) (omega arith) (h.2 0) in omega arith

pub once_short : (xs ys : List ℕ) → Once xs → ((x : ℕ) → ContainsAt xs x → ContainsAt ys x) → length xs ≤ length ys
once_short [] ys once within = omega arith
once_short (x ∷ xs) ys once within =
    let rest = once_short xs (without x ys) (once_rest x xs once) (λ y h. has_without x y ys (within y (has_later x y xs h)) (λ e. once_first x xs once (subst (ContainsAt xs) e h))) in
    let less = without_shorter x ys (within x (has_first x xs)) in
    omega arith
