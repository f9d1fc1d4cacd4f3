-- The starters: which slots start a word, and how many words they are. Assumes nothing.
use Rattle.std.proofs.Common.{◌≡◌, ℕ, zero, suc, ◌+◌, ◌<◌, ◌≤◌, Bool, true, false, cond, filter, not, eqb, ltb, [], ◌∷◌, ◌++◌, length, Decides, sym, refl, ap, ◌∙◌, subst, ⊎_elim, arith}
use Rattle.std.specs.List.{ContainsAt, range_with_len}
use Rattle.std.proofs.ByRecursion.{has_append_left, has_push, has_push_cases}
use Rattle.std.proofs.lemmas.List.{length_push}
use Rattle.std.proofs.lemmas.Bool.{and_cases, both_ways, cases_Bool, cases_eq, cond-true, cond-false, eqb-true, lt-ltb, not-false}
use Rattle.std.proofs.lemmas.Bool.Decides.{Decides-and, Decides-not, Decides-ltb, Decides-eqb, Decides-below_and}
use Rattle.words.specs.Bits.{every}
use Rattle.tables.specs.Grid.{Grid, member_word}
use Rattle.tables.proofs.Listed.{has_none}
use Rattle.finders.specs.Finder.{starts, starter_words, starters}
use Rattle.finders.proofs.Ranges.{passed_more}

-- slot j starts a word where it has members and no slot before it has the same
pub starts_tells : (g : Grid) (j : ℕ) → Decides (starts g j) ((0 < member_word g j) × ((k : ℕ) → k < j → member_word g k ≡ member_word g j → ⊥))
unfolding starts every
starts_tells g j =
    Decides-and (ltb 0 (member_word g j)) (every (λ k. not (eqb (member_word g k) (member_word g j))) j) (Decides-ltb 0 (member_word g j))
    (Decides-below_and (λ k. not (eqb (member_word g k) (member_word g j))) (λ k. member_word g k ≡ member_word g j → ⊥) (every (λ k. not (eqb (member_word g k) (member_word g j))))
    (λ k. Decides-not (eqb (member_word g k) (member_word g j)) (Decides-eqb (member_word g k) (member_word g j))) refl (λ _. refl) j)

pub starts_none : (g : Grid) (j : ℕ) → (((0 < member_word g j) × ((k : ℕ) → k < j → member_word g k ≡ member_word g j → ⊥)) → ⊥) → starts g j ≡ false
starts_none g j none = ⊎_elim (λ e. absurd (none ((starts_tells g j).0 e))) (λ e. e) (cases_Bool (starts g j))

-- ---- how many words there are

pub words_taken : (g : Grid) (n : ℕ) → starts g n ≡ true → length (starter_words g (suc n)) ≡ length (starter_words g n) + 1
unfolding starter_words
words_taken g n h = ap length (cond-true (starts g n) _ _ h) ∙ length_push (starter_words g n) (member_word g n)

pub words_skipped : (g : Grid) (n : ℕ) → starts g n ≡ false → length (starter_words g (suc n)) ≡ length (starter_words g n)
unfolding starter_words
words_skipped g n h = ap length (cond-false (starts g n) _ _ h)

pub words_most : (g : Grid) (n : ℕ) → length (starter_words g n) ≤ n
unfolding starter_words
words_most g zero = omega arith
words_most g (suc n) =
    let rest = words_most g n in
    ⊎_elim (λ e. let h = words_taken g n e in omega arith) (λ e. let h = words_skipped g n e in omega arith) (cases_Bool (starts g n))

pub starters_most : (g : Grid) → starters g ≤ g.slots
unfolding starters
starters_most g = words_most g g.slots

-- they are the slots that start a word
pub words_counted : (g : Grid) (n : ℕ) → length (filter (starts g) (range_with_len 0 n)) ≡ length (starter_words g n)
unfolding starter_words
words_counted g zero = refl
words_counted g (suc n) =
    passed_more (starts g) n ∙ ap (λ k. k + cond (starts g n) 1 0) (words_counted g n)
    ∙ ⊎_elim
    (λ e. let h = words_taken g n e in let one : ◌≡◌ {A = ℕ} (cond (starts g n) 1 0) 1 = cond-true _ _ _ e in omega arith)
    (λ e. let h = words_skipped g n e in let none : ◌≡◌ {A = ℕ} (cond (starts g n) 1 0) 0 = cond-false _ _ _ e in omega arith)
    (cases_Bool (starts g n))

-- ---- which words they are

pub words_next : (g : Grid) (n : ℕ) → starts g n ≡ true → starter_words g (suc n) ≡ starter_words g n ++ member_word g n ∷ []
unfolding starter_words
words_next g n h = cond-true (starts g n) _ _ h

pub words_same : (g : Grid) (n : ℕ) → starts g n ≡ false → starter_words g (suc n) ≡ starter_words g n
unfolding starter_words
words_same g n h = cond-false (starts g n) _ _ h

-- each word is that of a slot
pub words_from_slots : (g : Grid) (n x : ℕ) → ContainsAt (starter_words g n) x → (k : ℕ) × (k < n) × (member_word g k ≡ x)
unfolding starter_words
words_from_slots g zero x h = absurd (has_none x h)
words_from_slots g (suc n) x h =
    let sofar : ContainsAt (starter_words g n) x → (k : ℕ) × (k < suc n) × (member_word g k ≡ x) = λ t. let r = words_from_slots g n x t in (r.0, let l = r.1 in omega arith, r.2) in
    ⊎_elim
    (λ e. ⊎_elim sofar (λ s. (n, omega arith, s)) (has_push_cases (starter_words g n) (member_word g n) x (subst (λ m. ContainsAt m x) (words_next g n e) h)))
    (λ e. sofar (subst (λ m. ContainsAt m x) (words_same g n e) h))
    (cases_Bool (starts g n))

every_fails : (f : ℕ → Bool) (n : ℕ) → every f n ≡ false → (k : ℕ) × (k < n) × (f k ≡ false)
unfolding every
every_fails f zero h = absurd (both_ways true h refl)
every_fails f (suc n) h =
    ⊎_elim (λ e. (n, omega arith, e)) (λ e. let r = every_fails f n e in (r.0, let l = r.1 in omega arith, r.2)) (and_cases (f n) (every f n) h)

-- a slot with members that does not start their word comes after one with the same
not_first : (g : Grid) (n : ℕ) → 0 < member_word g n → starts g n ≡ false → (k : ℕ) × (k < n) × (member_word g k ≡ member_word g n)
unfolding starts
not_first g n some h =
    ⊎_elim
    (λ e. absurd (both_ways _ e (lt-ltb 0 (member_word g n) some)))
    (λ e. let r = every_fails _ n e in (r.0, r.1, eqb-true (member_word g r.0) (member_word g n) (not-false _ r.2)))
    (and_cases (ltb 0 (member_word g n)) (every (λ k. not (eqb (member_word g k) (member_word g n))) n) h)

module _ (g : Grid) (n : ℕ) (sofar : (k : ℕ) → k < n → 0 < member_word g k → ContainsAt (starter_words g n) (member_word g k)) where
  later : (k : ℕ) → k < n → 0 < member_word g k → ContainsAt (starter_words g (suc n)) (member_word g k)
  later k l some =
      ⊎_elim
      (λ e. subst (λ m. ContainsAt m (member_word g k)) (sym (words_next g n e)) (has_append_left (starter_words g n) (member_word g n ∷ []) (member_word g k) (sofar k l some)))
      (λ e. subst (λ m. ContainsAt m (member_word g k)) (sym (words_same g n e)) (sofar k l some))
      (cases_Bool (starts g n))

  last : 0 < member_word g n → ContainsAt (starter_words g (suc n)) (member_word g n)
  last some =
      ⊎_elim
      (λ e. subst (λ m. ContainsAt m (member_word g n)) (sym (words_next g n e)) (has_push (starter_words g n) (member_word g n)))
      (λ e. let r = not_first g n some e in subst (ContainsAt (starter_words g (suc n))) r.2 (later r.0 r.1 (subst (λ w. 0 < w) (sym r.2) some)))
      (cases_Bool (starts g n))

  one_slot_more : (k : ℕ) → k < suc n → 0 < member_word g k → ContainsAt (starter_words g (suc n)) (member_word g k)
  one_slot_more k l some =
      ⊎_elim (λ e. subst (λ j. ContainsAt (starter_words g (suc n)) (member_word g j)) (sym e) (last (subst (λ j. 0 < member_word g j) e some))) (λ e. later k (omega arith) some) (cases_eq k n)

-- and the members of every slot that has some are among them
pub slots_in_words : (g : Grid) (n k : ℕ) → k < n → 0 < member_word g k → ContainsAt (starter_words g n) (member_word g k)
slots_in_words g zero k l some = absurd (omega arith)
slots_in_words g (suc n) k l some = one_slot_more g n (slots_in_words g n) k l some
