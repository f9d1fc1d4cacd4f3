-- A grid and its window: the words of the window, and what mark and clear do seen through it. Assumes nothing.
use Rattle.std.proofs.Common.{◌≡◌, ℕ, ◌+◌, ◌-◌, ◌/◌, ◌%◌, ◌^◌, ◌<◌, ◌≤◌, min, Bool, true, false, cond, ◌&&◌, eqb, ltb, is_ok, Ok, sym, refl, ap, ◌∙◌, ap₂, subst, lt_of_le_of_lt, div-le_self, arith, shr-shr}
use mathlib.Core.Path.{fun_ext}
use lib.Bits.{bit_and}
use Rattle.std.proofs.lemmas.Bool.{lt-ltb, le-ltb, and_parts, ltb-true}
use Rattle.std.proofs.lemmas.Bool.Decides.{nat_tests}
use Rattle.words.specs.Bits.{bit, gather}
use Rattle.words.proofs.Bits.{bit-and, gathered, all_below}
use Rattle.words.proofs.Listed.{bit_ones, and_below}
use Rattle.tables.specs.Grid.{Grid, Proper, slot_word, member_word}
use Rattle.tables.specs.Sheet.{Sheet, sheet, with_pair, placing, marking, after_mark, clearing, after_clear}
use Rattle.views.specs.Window.{window_start, window_width, windowed}
use Rattle.tables.proofs.Closure.{slot_word_holds}
use Rattle.tables.proofs.Placing.{placed}
use Rattle.words.proofs.Gathering.{and_swap, gathers_nothing}

bit_shifted : (w s j : ℕ) → bit (w / 2 ^ s) j ≡ bit w (s + j)
unfolding bit
bit_shifted w s j = ap (λ x. eqb (x % 2) 1) (shr-shr w s j)

-- the grid with k slots from slot s on
abbrev shown : ℕ → ℕ → Grid → Grid
shown s k g = record { members = g.members; slots = k; marked = λ i j. ltb j k && g.marked i (s + j) }

-- the sheet of that grid, with the same free places
abbrev shown_sheet : ℕ → ℕ → Sheet → Sheet
shown_sheet s k t = sheet (shown s k t.grid) t.free

through : (s k : ℕ) (b : Bool) (x y : Sheet) → shown_sheet s k (cond b x y) ≡ cond b (shown_sheet s k x) (shown_sheet s k y)
through s k true x y = refl
through s k false x y = refl

module _ (g : Grid) (proper : Proper g) (s k : ℕ) (within : s + k ≤ g.slots) where
  shown_word : (i word all : ℕ) → word < 2 ^ 64 → word ≡ slot_word g i → all ≡ 2 ^ min k 64 - 1 → bit_and (word / 2 ^ s) all ≡ slot_word (shown s k g) i
  unfolding slot_word
  shown_word i word all low read made =
      let fits : k ≤ 64 = (let m = g.slots in let top : m ≤ 64 = proper.slots_fit in omega arith) in
      gathered (bit_and (word / 2 ^ s) all) k (λ j. ltb j k && g.marked i (s + j)) fits
      (and_below 64 (word / 2 ^ s) all (lt_of_le_of_lt (div-le_self word (2 ^ s)) low))
      (λ j.
      bit-and (word / 2 ^ s) all j
      ∙ ap₂ ◌&&◌ (bit_shifted word s j ∙ ap (λ x. bit x (s + j)) read ∙ slot_word_holds g proper i (s + j)) (ap (λ x. bit x j) (made ∙ all_below k fits) ∙ bit_ones k j)
      ∙ and_swap (g.marked i (s + j)) (ltb j k))
      (λ j h. ltb-true j k (and_parts (ltb j k) (g.marked i (s + j)) h).0)

  shown_member_word : (j : ℕ) → j < k → member_word g (s + j) ≡ member_word (shown s k g) j
  unfolding slot_word
  shown_member_word j h = ap (λ t. gather (λ i. t && g.marked i (s + j)) g.members) (sym (lt-ltb j k h))

  shown_no_slot : (j : ℕ) → k ≤ j → 0 ≡ member_word (shown s k g) j
  unfolding slot_word
  shown_no_slot j h = gathers_nothing (λ i. ltb j k && g.marked i (s + j)) g.members proper.members_fit (λ i. ap (λ t. t && g.marked i (s + j)) (le-ltb j k h))

  module _ (free i j : ℕ) (hi : i < g.members) (hj : j < k) where
    marking_shown : marking (sheet g free) i (s + j) ≡ marking (sheet (shown s k g) free) i j
    marking_shown = grind (arith, nat_tests)

    clearing_shown : clearing (sheet g free) i (s + j) ≡ clearing (sheet (shown s k g) free) i j
    clearing_shown = grind (arith, nat_tests)

    pair_shown : (told : Bool) → shown s k (with_pair g i (s + j) told) ≡ with_pair (shown s k g) i j told
    pair_shown told = ap (λ f. record { members = g.members; slots = k; marked = f }) (fun_ext (λ x. fun_ext (λ y. each x y)))
      where
        each : (x y : ℕ) → (ltb y k && cond (eqb x i && eqb (s + y) (s + j)) told (g.marked x (s + y))) ≡ cond (eqb x i && eqb y j) told (ltb y k && g.marked x (s + y))
        each x y = grind (arith, nat_tests)

    after_mark_shown : shown_sheet s k (after_mark (sheet g free) i (s + j)) ≡ after_mark (sheet (shown s k g) free) i j
    after_mark_shown =
        through s k (is_ok (marking (sheet g free) i (s + j))) _ (sheet g free)
        ∙ ap₂ (λ b x. cond b x (sheet (shown s k g) free)) (ap is_ok marking_shown)
        (ap₂ sheet (pair_shown true) (ap (λ b. free - cond (b && g.marked i (s + j)) 0 1) (sym (lt-ltb j k hj))))

    after_clear_shown : shown_sheet s k (after_clear (sheet g free) i (s + j)) ≡ after_clear (sheet (shown s k g) free) i j
    after_clear_shown =
        through s k (is_ok (clearing (sheet g free) i (s + j))) _ (sheet g free)
        ∙ ap₂ (λ b x. cond b x (sheet (shown s k g) free)) (ap is_ok clearing_shown)
        (ap₂ sheet (pair_shown false) (ap (λ b. free + cond (b && g.marked i (s + j)) 1 0) (sym (lt-ltb j k hj))))

-- the same sheet through a window of that start and width
abbrev seen : ℕ → ℕ → Sheet → Sheet
seen a w t = sheet (windowed a w t.grid) t.free

-- mark and clear keep the number of slots, and so the window
seen_is_shown : (a w : ℕ) (b : Bool) (x y : Sheet) → x.grid.slots ≡ y.grid.slots → seen a w (cond b x y) ≡ shown_sheet (window_start y.grid.slots a) (window_width y.grid.slots a w) (cond b x y)
seen_is_shown a w true x y e = ap (λ m. shown_sheet (window_start m a) (window_width m a w) x) e
seen_is_shown a w false x y e = refl

-- s and k are the start and the width of the window, as the code computes them
module _ (g : Grid) (proper : Proper g) (a w s k : ℕ) (starts : s ≡ window_start g.slots a) (wide : k ≡ window_width g.slots a w) where
  within : s + k ≤ g.slots
  within = let m = g.slots in let some : 1 ≤ m = proper.some_slot in omega arith

  as_windowed : shown s k g ≡ windowed a w g
  as_windowed = ap₂ (λ s k. shown s k g) starts wide

  pub window_word : (i word all : ℕ) → word < 2 ^ 64 → word ≡ slot_word g i → all ≡ 2 ^ min k 64 - 1 → bit_and (word / 2 ^ s) all ≡ slot_word (windowed a w g) i
  window_word i word all low read made = shown_word g proper s k within i word all low read made ∙ ap (λ h. slot_word h i) as_windowed

  pub window_member_word : (j : ℕ) → j < k → member_word g (s + j) ≡ member_word (windowed a w g) j
  window_member_word j h = shown_member_word g proper s k within j h ∙ ap (λ h. member_word h j) as_windowed

  pub window_no_slot : (j : ℕ) → k ≤ j → 0 ≡ member_word (windowed a w g) j
  window_no_slot j h = shown_no_slot g proper s k within j h ∙ ap (λ h. member_word h j) as_windowed

-- mark and clear of a place that the window has, over a roster that means t
module _ (t : Sheet) (g : Grid) (same : t.grid ≡ g) (proper : Proper g) (a w s i j : ℕ) (starts : s ≡ window_start g.slots a) (has : placing (windowed a w g) i j ≡ Ok tt) where
  below : Proper t.grid
  below = subst Proper (sym same) proper

  starts_below : s ≡ window_start t.grid.slots a
  starts_below = starts ∙ ap (λ h. window_start h.slots a) (sym same)

  inside : (i < t.grid.members) × (j < window_width t.grid.slots a w)
  inside = subst (λ h. (i < h.members) × (j < window_width h.slots a w)) (sym same) (placed (windowed a w g) i j has)

  abbrev k : ℕ
  k = window_width t.grid.slots a w

  pub window_after_mark : (u : Sheet) → u ≡ after_mark t i (s + j) → seen a w u ≡ after_mark (seen a w t) i j
  window_after_mark u e =
      ap (seen a w) e ∙ seen_is_shown a w (is_ok (marking t i (s + j))) _ t refl
      ∙ ap (λ s'. shown_sheet s' k (after_mark t i (s + j))) (sym starts_below)
      ∙ after_mark_shown t.grid below s k (within t.grid below a w s k starts_below refl) t.free i j inside.0 inside.1
      ∙ ap (λ s'. after_mark (sheet (shown s' k t.grid) t.free) i j) starts_below

  pub window_after_clear : (u : Sheet) → u ≡ after_clear t i (s + j) → seen a w u ≡ after_clear (seen a w t) i j
  window_after_clear u e =
      ap (seen a w) e ∙ seen_is_shown a w (is_ok (clearing t i (s + j))) _ t refl
      ∙ ap (λ s'. shown_sheet s' k (after_clear t i (s + j))) (sym starts_below)
      ∙ after_clear_shown t.grid below s k (within t.grid below a w s k starts_below refl) t.free i j inside.0 inside.1
      ∙ ap (λ s'. after_clear (sheet (shown s' k t.grid) t.free) i j) starts_below
