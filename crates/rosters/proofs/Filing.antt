-- What one changed pair does to the words of a bit roster. Assumes nothing.
use Rattle.std.proofs.Common.{◌≡◌, ℕ, zero, suc, ◌+◌, ◌-◌, ◌*◌, ◌<◌, ◌≤◌, Bool, true, false, cond, not, ◌&&◌, ◌||◌, eqb, List, length, get_or, set, replicate, sym, refl, ap, ◌∙◌, ap₂, ⊎_elim, arith, get_or-set_other, get_or-set_same}
use mathlib.Core.Path.{fun_ext}
use lib.Bits.{bit_or, bit_xor}
use Rattle.std.proofs.lemmas.Bool.{cases_eq, cases_Bool, eq-eqb, ne_eqb, eqb-true, cond-true, cond-false, and_parts, and_from, and_left, both_ways}
use Rattle.words.specs.Bits.{bit, lone}
use Rattle.words.proofs.Bits.{bit_zero, bit-or, bit-xor, bit_lone}
use Rattle.tables.specs.Filed.{held, Inside}
use Rattle.rosters.specs.Kept.{Mirrored, Counted}
use Rattle.tables.specs.Grid.{Grid}
use Rattle.tables.specs.Sheet.{sheet, with_pair}
use Rattle.rosters.proofs.Counting.{marks_more, marks_most, marks_none, With}

-- in the words of `after` pair (i, j) is as told, and every other pair as in `rows`
abbrev pub Put : List ℕ → ℕ → ℕ → Bool → List ℕ → Type 0
Put rows i j told after = (a b : ℕ) → held after a b ≡ cond (eqb a i && eqb b j) told (held rows a b)

put_row : (rows : List ℕ) (i j w : ℕ) (told : Bool) → i < length rows → ((b : ℕ) → bit w b ≡ cond (eqb b j) told (bit (get_or rows i 0) b)) → Put rows i j told (set rows i w)
put_row rows i j w told within law a b =
    ⊎_elim
    (λ e.
    ap (λ k. held (set rows i w) k b) e ∙ ap (λ x. bit x b) (get_or-set_same rows i w 0 within) ∙ law b
    ∙ sym (ap (λ t. cond (t && eqb b j) told (held rows a b)) (eq-eqb a i e) ∙ ap (λ k. cond (eqb b j) told (held rows k b)) e))
    (λ apart. ap (λ x. bit x b) (get_or-set_other rows i a w 0 apart) ∙ sym (cond-false (eqb a i && eqb b j) told (held rows a b) (and_left _ _ (ne_eqb a i apart))))
    (cases_eq a i)

or_as_cond : (x t : Bool) → (x || t) ≡ cond t true x
or_as_cond true true = refl
or_as_cond true false = refl
or_as_cond false true = refl
or_as_cond false false = refl

-- the word with number j besides
pub put_mark : (rows : List ℕ) (i j : ℕ) → i < length rows → j < 64 → Put rows i j true (set rows i (bit_or (get_or rows i 0) (lone j)))
put_mark rows i j within fits =
    put_row rows i j _ true within
    (λ b. bit-or (get_or rows i 0) (lone j) b ∙ ap (λ t. bit (get_or rows i 0) b || t) (bit_lone j b fits) ∙ or_as_cond _ (eqb b j))

without : (row j b : ℕ) → bit row j ≡ true → cond (bit row b) (not (eqb b j)) (eqb b j) ≡ cond (eqb b j) false (bit row b)
without row j b h =
    ⊎_elim
    (λ e.
    let here = ap (bit row) e ∙ h in
    cond-true (bit row b) _ _ here ∙ ap not (eq-eqb b j e) ∙ sym (cond-true (eqb b j) false _ (eq-eqb b j e)))
    (λ apart. ap (λ t. cond (bit row b) (not t) t) (ne_eqb b j apart) ∙ whole (bit row b) ∙ sym (cond-false (eqb b j) false _ (ne_eqb b j apart)))
    (cases_eq b j)
  where
    whole : (t : Bool) → cond t true false ≡ t
    whole true = refl
    whole false = refl

-- the word without its number j
pub put_clear : (rows : List ℕ) (i j : ℕ) → i < length rows → j < 64 → held rows i j ≡ true → Put rows i j false (set rows i (bit_xor (get_or rows i 0) (lone j)))
put_clear rows i j within fits h =
    put_row rows i j _ false within
    (λ b. bit-xor (get_or rows i 0) (lone j) b ∙ ap (λ t. cond (bit (get_or rows i 0) b) (not t) t) (bit_lone j b fits) ∙ without (get_or rows i 0) j b h)

module _ (rows after : List ℕ) (i j : ℕ) (told : Bool) (put : Put rows i j told after) where
  -- the pair itself
  pub put_here : held after i j ≡ told
  put_here = put i j ∙ cond-true _ told _ (and_from _ _ (eq-eqb i i refl) (eq-eqb j j refl))

  pub inside_put : (n m : ℕ) → Inside n m rows → i < n → j < m → Inside n m after
  inside_put n m inside hi hj a b h =
      ⊎_elim
      (λ e.
      let parts = and_parts (eqb a i) (eqb b j) e in
      let first = eqb-true a i parts.0 in
      let second = eqb-true b j parts.1 in
      (omega arith, omega arith))
      (λ e. inside a b (sym (cond-false _ told (held rows a b) e) ∙ sym (put a b) ∙ h))
      (cases_Bool (eqb a i && eqb b j))

  swap : (x y : Bool) → (x && y) ≡ (y && x)
  swap true true = refl
  swap true false = refl
  swap false true = refl
  swap false false = refl

  pub mirrored_put : (columns beside : List ℕ) → Mirrored rows columns → Put columns j i told beside → Mirrored after beside
  mirrored_put columns beside mirrored put' a b =
      put' b a ∙ ap (λ t. cond t told (held columns b a)) (swap (eqb b j) (eqb a i)) ∙ ap (cond (eqb a i && eqb b j) told) (mirrored a b) ∙ sym (put a b)

  pub grid_put : (n m free : ℕ) (g : Grid) → g ≡ record { members = n; slots = m; marked = held rows } → sheet (record { members = n; slots = m; marked = held after }) free ≡ sheet (with_pair g i j told) free
  grid_put n m free g same =
      ap (λ f. sheet (record { members = n; slots = m; marked = f }) free) (fun_ext (λ a. fun_ext (λ b. put a b)))
      ∙ ap (λ g. sheet (with_pair g i j told) free) (sym same)

-- a newly marked pair takes a free place, and there is one
pub counted_mark : (n m free : ℕ) (rows after : List ℕ) (i j : ℕ) → Counted n m rows free → i < n → j < m → held rows i j ≡ false → Put rows i j true after → (1 ≤ free) × Counted n m after (free - 1)
counted_mark n m free rows after i j counted hi hj unmarked put =
    let more = marks_more n m (held rows) (held after) i j hi hj unmarked put in
    let most = marks_most n m (held after) in
    (omega arith, omega arith)

-- a cleared pair gives its place back
pub counted_clear : (n m free : ℕ) (rows after : List ℕ) (i j : ℕ) → Counted n m rows free → i < n → j < m → held rows i j ≡ true → Put rows i j false after → Counted n m after (free + 1)
counted_clear n m free rows after i j counted hi hj marked put =
    let more = marks_more n m (held after) (held rows) i j hi hj (put_here rows after i j false put) back in
    omega arith
  where
    back : With (held after) i j (held rows)
    back a b =
        ⊎_elim
        (λ e.
        let parts = and_parts (eqb a i) (eqb b j) e in
        ap₂ (held rows) (eqb-true a i parts.0) (eqb-true b j parts.1) ∙ marked ∙ sym (cond-true _ true _ e))
        (λ e. sym (put a b ∙ cond-false _ false _ e) ∙ sym (cond-false _ true _ e))
        (cases_Bool (eqb a i && eqb b j))

-- ---- no pair marked

pub held_none : (k i j : ℕ) → held (replicate k 0) i j ≡ false
held_none zero i j = bit_zero j
held_none (suc k) zero j = bit_zero j
held_none (suc k) (suc i) j = held_none k i j

pub inside_none : (n m k : ℕ) → Inside n m (replicate k 0)
inside_none n m k i j h = absurd (both_ways _ (held_none k i j) h)

pub mirrored_none : (k : ℕ) → Mirrored (replicate k 0) (replicate k 0)
mirrored_none k i j = held_none k j i ∙ sym (held_none k i j)

pub counted_none : (n m k : ℕ) → Counted n m (replicate k 0) (n * m)
counted_none n m k = let none = marks_none n m (held (replicate k 0)) (held_none k) in omega arith
