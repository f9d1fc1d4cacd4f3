-- Where a line stands among increasing lines: what is before the place, and what is at it and behind. Assumes nothing.
use Rattle.std.proofs.Common.{◌≡◌, ℕ, zero, suc, ◌+◌, ◌<◌, ◌≤◌, Bool, true, false, cond, List, [], ◌∷◌, length, get_or, Some, None, Ok, Err, Result, Ordering, Less, Equal, Greater, sym, refl, ap, ◌∙◌, suc-le-suc, le_of_suc-le-suc, arith}
use Rattle.std.specs.Ordering.{is_lt, ordering_reverse}
use Rattle.std.specs.List.Sorted.{IsStrictlySortedBy, IsSorted, IsBinarySearchResult, IsSearchInRange}
use Rattle.std.proofs.lemmas.Bool.{both_ways, cond-true, cond-false}
use Rattle.std.proofs.lemmas.List.Sorted.{searchable_from_sorted}
use Rattle.std.proofs.lemmas.Map.Keys.{Less-from_sorted}
use Rattle.boards.specs.Orders.{Laws, total_of_laws}
use Rattle.boards.specs.Lines.{Increasing, on_board, count_before, place_of, further, standing}

-- ---- one line and a list

pub by_order : {G : Type 0} (r : Ordering) → (r ≡ Less → G) → (r ≡ Equal → G) → (r ≡ Greater → G) → G
by_order Less f g h = f refl
by_order Equal f g h = g refl
by_order Greater f g h = h refl

module _ {L : Type 0} {order : L → L → Ordering} (laws : Laws order) where
  -- behind a line that is not before x no line is before x, and none is x
  pub behind : (y x : L) (ys : List L) → Increasing order (y ∷ ys) → is_lt (order y x) ≡ false → (count_before order ys x ≡ 0) × (on_board order ys x ≡ false)
  unfolding IsStrictlySortedBy count_before on_board
  behind y x [] up n = (refl, refl)
  behind y x (z ∷ zs) up n =
      let rest = behind y x zs (up.0.1, up.1.1) n in
      by_order (order z x)
      (λ e. absurd (both_ways _ n (ap is_lt (laws.chain y z x up.0.0 e))))
      (λ e. absurd (both_ways _ n (ap (λ w. is_lt (order y w)) (sym (laws.same z x e)) ∙ ap is_lt up.0.0)))
      (λ e. rw e rest)

  -- a line's place is one more than the number of lines before it
  pub place_counted : (xs : List L) (x : L) → Increasing order xs → place_of order xs x ≡ cond (on_board order xs x) (Some (suc (count_before order xs x))) None
  unfolding IsStrictlySortedBy on_board count_before place_of
  place_counted [] x up = refl
  place_counted (y ∷ ys) x up =
      let rest = ap further (place_counted ys x up.1) in
      by_order (order y x)
      (λ e. rw e (rest ∙ further_cond (on_board order ys x) _))
      (λ e. let none = behind y x ys up (ap is_lt e) in rw (e, none.0))
      (λ e. let none = behind y x ys up (ap is_lt e) in rw (e, none.0, none.1) (rest ∙ ap (λ b. further (cond b (Some (suc (count_before order ys x))) None)) none.1))
    where
      further_cond : (b : Bool) (k : ℕ) → further (cond b (Some k) None) ≡ cond b (Some (suc k)) None
      further_cond true k = refl
      further_cond false k = refl

  -- ---- what a binary search tells

  sorted : (xs : List L) → Increasing order xs → IsSorted order xs
  sorted xs up k d from below = ap is_lt (laws.turned (get_or xs k d) (get_or xs (k + 1) d) ∙ ap ordering_reverse (Less-from_sorted order xs k (k + 1) d up (omega arith) below))

  found : (xs : List L) (x : L) (i : ℕ) → Increasing order xs → i < length xs → order (get_or xs i x) x ≡ Equal → (on_board order xs x ≡ true) × (i ≡ count_before order xs x)
  unfolding IsStrictlySortedBy on_board count_before
  found [] x i up l e = absurd (omega arith)
  found (y ∷ ys) x zero up l e = let none = behind y x ys up (ap is_lt e) in rw (e, none.0) (refl, refl)
  found (y ∷ ys) x (suc i) up l e =
      let rest = found ys x i up.1 (le_of_suc-le-suc l) e in
      let first = ap (order y) (sym (laws.same _ x e)) ∙ Less-from_sorted order (y ∷ ys) 0 (suc i) x up (omega arith) l in
      rw (first, rest.0) (refl, ap suc rest.1)

  missed : (xs : List L) (x : L) (i : ℕ) → i ≤ length xs → ((k : ℕ) → k < i → order (get_or xs k x) x ≡ Less)
      → ((k : ℕ) → i ≤ k → k < length xs → order (get_or xs k x) x ≡ Greater) → (on_board order xs x ≡ false) × (i ≡ count_before order xs x)
  unfolding on_board count_before
  missed [] x i l front back = (refl, omega arith)
  missed (y ∷ ys) x zero l front back =
      let rest = missed ys x 0 (omega arith) (λ k m. absurd (omega arith)) (λ k m n. back (suc k) (omega arith) (suc-le-suc n)) in
      rw (back 0 (omega arith) (omega arith), rest.0) (refl, rest.1)
  missed (y ∷ ys) x (suc i) l front back =
      let rest = missed ys x i (le_of_suc-le-suc l) (λ k m. front (suc k) (suc-le-suc m)) (λ k m n. back (suc k) (suc-le-suc m) (suc-le-suc n)) in
      rw (front 0 (omega arith), rest.0) (refl, ap suc rest.1)

  pub searched : (xs : List L) (x : L) (r : Result ℕ ℕ) → Increasing order xs → IsSearchInRange r (length xs) → IsBinarySearchResult (λ y. order y x) xs r → r ≡ standing order xs x
  searched xs x (Ok i) up within at = let told = found xs x i up within (at x) in ap Ok told.1 ∙ sym (cond-true _ _ _ told.0)
  searched xs x (Err i) up within at =
      let point = at (searchable_from_sorted (total_of_laws laws).0 (λ y. y) xs x (sorted xs up)) in
      let told = missed xs x i within (λ k l. point.0 k x (omega arith) l) (λ k l m. point.1 k x l m) in
      ap Err told.1 ∙ sym (cond-false _ _ _ told.0)

-- what the answer tells
pub is_found : {L : Type 0} (order : L → L → Ordering) (xs : List L) (x : L) (p : ℕ) → Ok p ≡ standing order xs x → (on_board order xs x ≡ true) × (p ≡ count_before order xs x)
is_found order xs x p h = told (on_board order xs x) (count_before order xs x) h
  where
    told : (b : Bool) (k : ℕ) → Ok p ≡ cond b (Ok k) (Err k) → (b ≡ true) × (p ≡ k)
    told true k e = (refl, cc)
    told false k e = (cc, cc)

pub is_missed : {L : Type 0} (order : L → L → Ordering) (xs : List L) (x : L) (p : ℕ) → Err p ≡ standing order xs x → (on_board order xs x ≡ false) × (p ≡ count_before order xs x)
is_missed order xs x p h = told (on_board order xs x) (count_before order xs x) h
  where
    told : (b : Bool) (k : ℕ) → Err p ≡ cond b (Ok k) (Err k) → (b ≡ false) × (p ≡ k)
    told true k e = (cc, cc)
    told false k e = (refl, cc)
