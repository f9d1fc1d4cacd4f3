-- Askings in turn give a list from its first entry on, and then none. Assumes nothing.
use Rattle.std.proofs.Common.{◌≡◌, ℕ, zero, suc, ◌+◌, ◌<◌, ◌≤◌, List, [], ◌∷◌, ◌++◌, length, get_or, drop, Some, None, Option, sym, refl, ap, ◌∙◌, subst, ⊎_elim, zero-le, le_of_suc-le-suc, not-suc-le-zero, add-one}
use Rattle.std.specs.List.{ContainsAt}
use Rattle.tables.specs.Crews.{crews}
use Rattle.tables.specs.Firsts.{first, rest}
use Rattle.tables.specs.Grid.{Grid}
use Rattle.tables.proofs.Crews.{crews_have}
use Rattle.tables.proofs.Listed.{has_none, has_first, has_later, has_cases}
use Rattle.sessions.specs.Tours.{in_turn, ReachesEachCrew}

module _ {A : Type 0} where
  pub in_turn_length : (n : ℕ) (l : List A) → length (in_turn n l) ≡ n
  in_turn_length zero l = refl
  in_turn_length (suc n) l = ap suc (in_turn_length n (rest l))

  -- one asking more
  pub in_turn_more : (k : ℕ) (l : List A) → in_turn (k + 1) l ≡ in_turn k l ++ (first (drop k l) ∷ [])
  in_turn_more k l = ap (λ n. in_turn n l) (add-one k) ∙ go k l
    where
      go : (k : ℕ) (l : List A) → in_turn (suc k) l ≡ in_turn k l ++ (first (drop k l) ∷ [])
      go zero l = refl
      go (suc zero) [] = refl
      go (suc (suc k)) [] = ap (λ t. None ∷ t) (go (suc k) [])
      go (suc k) (x ∷ l) = ap (λ t. Some x ∷ t) (go k l)

  pub drop_more : (k : ℕ) (l : List A) → drop (k + 1) l ≡ rest (drop k l)
  drop_more k l = ap (λ n. drop n l) (add-one k) ∙ go k l
    where
      go : (k : ℕ) (l : List A) → drop (suc k) l ≡ rest (drop k l)
      go zero [] = refl
      go zero (x ∷ l) = refl
      go (suc k) [] = refl
      go (suc k) (x ∷ l) = go k l

  in_turn_at : (n : ℕ) (l : List A) (k : ℕ) (d : A) → k < n → k < length l → get_or (in_turn n l) k None ≡ Some (get_or l k d)
  in_turn_at zero l k d h i = absurd (not-suc-le-zero h)
  in_turn_at (suc n) [] k d h i = absurd (not-suc-le-zero i)
  in_turn_at (suc n) (x ∷ l) zero d h i = refl
  in_turn_at (suc n) (x ∷ l) (suc k) d h i = in_turn_at n l k d (le_of_suc-le-suc h) (le_of_suc-le-suc i)

  in_turn_past : (n : ℕ) (l : List A) (k : ℕ) → k < n → length l ≤ k → get_or (in_turn n l) k None ≡ None
  in_turn_past zero l k h i = absurd (not-suc-le-zero h)
  in_turn_past (suc n) [] zero h i = refl
  in_turn_past (suc n) [] (suc k) h i = in_turn_past n [] k (le_of_suc-le-suc h) zero-le
  in_turn_past (suc n) (x ∷ l) zero h i = absurd (not-suc-le-zero i)
  in_turn_past (suc n) (x ∷ l) (suc k) h i = in_turn_past n l k (le_of_suc-le-suc h) (le_of_suc-le-suc i)

  in_turn_has : (n : ℕ) (l : List A) (x : A) → length l ≤ n → ContainsAt l x → ContainsAt (in_turn n l) (Some x)
  in_turn_has n [] x long h = absurd (has_none x h)
  in_turn_has zero (y ∷ l) x long h = absurd (not-suc-le-zero long)
  in_turn_has (suc n) (y ∷ l) x long h =
      ⊎_elim
      (λ e. subst (λ z. ContainsAt (Some y ∷ in_turn n l) (Some z)) e (has_first (Some y) (in_turn n l)))
      (λ later. has_later (Some y) (Some x) (in_turn n l) (in_turn_has n l x (le_of_suc-le-suc long) later))
      (has_cases y x l h)

pub reaches_each : (g : Grid) (n : ℕ) (answers : List (Option (ℕ × ℕ))) → answers ≡ in_turn n (crews g) → ReachesEachCrew g answers
reaches_each g n answers e =
    subst (ReachesEachCrew g) (sym e) (record {
      each = λ k d h i. in_turn_at n (crews g) k d (subst (λ m. k < m) (in_turn_length n (crews g)) h) i;
      then_none = λ k h i. in_turn_past n (crews g) k (subst (λ m. k < m) (in_turn_length n (crews g)) h) i;
      all_given = λ long x y h. in_turn_has n (crews g) (x, y) (subst (λ m. length (crews g) ≤ m) (in_turn_length n (crews g)) long) (crews_have g x y h);
    })
