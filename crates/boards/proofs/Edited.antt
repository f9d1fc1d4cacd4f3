-- Increasing lines with one more and with one fewer: how they split where it stands, that they stay increasing, and how many there are. Assumes nothing.
use Rattle.std.proofs.Common.{◌≡◌, suc, Bool, true, false, cond, ◌||◌, List, [], ◌∷◌, ◌++◌, length, take, drop, Ordering, Less, refl, ap, ◌∙◌, arith}
use Rattle.std.proofs.lemmas.Bool.{cond_both, both_ways, true≢false}
use Rattle.std.specs.Ordering.{is_lt, is_eq, ordering_reverse}
use Rattle.std.specs.List.{AllByRecursion}
use Rattle.std.specs.List.Sorted.{IsStrictlySortedBy}
use Rattle.boards.specs.Orders.{Laws}
use Rattle.boards.specs.Lines.{Increasing, on_board, count_before, with_line, without_line}
use Rattle.boards.proofs.Standing.{by_order, behind}

-- ---- the lines before the place and behind it, and their order

module _ {L : Type 0} {order : L → L → Ordering} (laws : Laws order) where
  pub with_split : (xs : List L) (x : L) → Increasing order xs → with_line order xs x ≡ take (count_before order xs x) xs ++ x ∷ drop (count_before order xs x) xs
  unfolding IsStrictlySortedBy count_before with_line
  with_split [] x up = refl
  with_split (y ∷ ys) x up =
      by_order (order y x)
      (λ e. rw e (ap (λ zs. y ∷ zs) (with_split ys x up.1)))
      (λ e. rw (e, (behind laws y x ys up (ap is_lt e)).0))
      (λ e. rw (e, (behind laws y x ys up (ap is_lt e)).0))

  pub without_split : (xs : List L) (x : L) → Increasing order xs → on_board order xs x ≡ true
      → without_line order xs x ≡ take (count_before order xs x) xs ++ drop (suc (count_before order xs x)) xs
  unfolding IsStrictlySortedBy on_board count_before without_line
  without_split [] x up b = absurd (grind arith)
  without_split (y ∷ ys) x up b =
      by_order (order y x)
      (λ e. rw e (ap (λ zs. y ∷ zs) (without_split ys x up.1 (rw e at b))))
      (λ e. rw (e, (behind laws y x ys up (ap is_lt e)).0))
      (λ e. absurd (both_ways _ (behind laws y x ys up (ap is_lt e)).1 (rw e at b)))

  after_with : (y x : L) (ys : List L) → AllByRecursion (λ z. order y z ≡ Less) ys → order y x ≡ Less → AllByRecursion (λ z. order y z ≡ Less) (with_line order ys x)
  unfolding with_line
  after_with y x [] h e = (e, tt)
  after_with y x (z ∷ zs) h e =
      cond_both (is_lt (order z x)) _ _ (AllByRecursion (λ z. order y z ≡ Less)) (λ _. (h.0, after_with y x zs h.1 e)) (λ _. (e, h))

  after_chain : (x y : L) (ys : List L) → order x y ≡ Less → AllByRecursion (λ z. order y z ≡ Less) ys → AllByRecursion (λ z. order x z ≡ Less) ys
  after_chain x y [] e h = tt
  after_chain x y (z ∷ zs) e h = (laws.chain x y z e h.0, after_chain x y zs e h.1)

  pub with_increasing : (xs : List L) (x : L) → Increasing order xs → on_board order xs x ≡ false → Increasing order (with_line order xs x)
  unfolding IsStrictlySortedBy on_board with_line
  with_increasing [] x up b = (tt, tt)
  with_increasing (y ∷ ys) x up b =
      by_order (order y x)
      (λ e. rw e (after_with y x ys up.0 e, with_increasing ys x up.1 (rw e at b)))
      (λ e. absurd (true≢false (rw e at b)))
      (λ e. let first = laws.turned y x ∙ ap ordering_reverse e in rw e ((first, after_chain x y ys first up.0), up))

  after_without : (y x : L) (ys : List L) → AllByRecursion (λ z. order y z ≡ Less) ys → AllByRecursion (λ z. order y z ≡ Less) (without_line order ys x)
  unfolding without_line
  after_without y x [] h = tt
  after_without y x (z ∷ zs) h =
      cond_both (is_eq (order z x)) _ _ (AllByRecursion (λ z. order y z ≡ Less)) (λ _. h.1) (λ _. (h.0, after_without y x zs h.1))

  pub without_increasing : (xs : List L) (x : L) → Increasing order xs → Increasing order (without_line order xs x)
  unfolding IsStrictlySortedBy without_line
  without_increasing [] x up = tt
  without_increasing (y ∷ ys) x up =
      cond_both (is_eq (order y x)) _ _ (Increasing order) (λ _. up.1) (λ _. (after_without y x ys up.0, without_increasing ys x up.1))

-- ---- how many lines there are

pub length_with : {L : Type 0} (order : L → L → Ordering) (xs : List L) (x : L) → length (with_line order xs x) ≡ suc (length xs)
unfolding with_line
length_with order [] x = refl
length_with order (y ∷ ys) x = by_test (is_lt (order y x)) (length_with order ys x)
  where
    by_test : (t : Bool) → length (with_line order ys x) ≡ suc (length ys) → length (cond t (y ∷ with_line order ys x) (x ∷ y ∷ ys)) ≡ suc (suc (length ys))
    by_test true h = ap suc h
    by_test false h = refl

pub length_without : {L : Type 0} (order : L → L → Ordering) (xs : List L) (x : L) → on_board order xs x ≡ true → suc (length (without_line order xs x)) ≡ length xs
unfolding on_board without_line
length_without order [] x b = absurd (grind arith)
length_without order (y ∷ ys) x b = by_test (is_eq (order y x)) (length_without order ys x) b
  where
    by_test : (t : Bool) → (on_board order ys x ≡ true → suc (length (without_line order ys x)) ≡ length ys) → (t || on_board order ys x) ≡ true
        → suc (length (cond t ys (y ∷ without_line order ys x))) ≡ suc (length ys)
    by_test true h k = refl
    by_test false h k = ap suc (h k)
