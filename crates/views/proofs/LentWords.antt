-- The words of a table over lent words. Assumes nothing.
use Rattle.std.proofs.Common.{◌≡◌, ℕ, ◌-◌, ◌^◌, ◌<◌, ◌≤◌, min, false, ◌&&◌, ltb, List, length, get_or, sym, ap, ◌∙◌, ⊎_elim}
use lib.Bits.{bit_and}
use Rattle.std.proofs.lemmas.Bool.{lt-ltb, le-ltb, and_parts, and_left, and_right, ltb-true, cases_lt}
use Rattle.std.proofs.lemmas.List.{get_or_past}
use Rattle.words.specs.Bits.{bit}
use Rattle.words.proofs.Bits.{bit-and, bit_zero, gathered, all_below}
use Rattle.words.proofs.Listed.{bit_ones, and_below}
use Rattle.tables.specs.Filed.{held}
use Rattle.tables.specs.Grid.{slot_word, member_word}
use Rattle.views.specs.Lent.{lent_grid}
use Rattle.words.proofs.Gathering.{and_swap, gathers_nothing, GatheredBelow}

-- a missing word holds nothing
held_missing : (words : List ℕ) (i j : ℕ) → length words ≤ i → held words i j ≡ false
held_missing words i j past = ap (λ w. bit w j) (get_or_past words i 0 past) ∙ bit_zero j

module _ (n m : ℕ) (words : List ℕ) (n-fits : n ≤ 64) (m-fits : m ≤ 64) where
  pub lent_word : (i all : ℕ) → i < n → get_or words i 0 < 2 ^ 64 → all ≡ 2 ^ min m 64 - 1 → bit_and (get_or words i 0) all ≡ slot_word (lent_grid n m words) i
  unfolding slot_word
  lent_word i all within low made =
      gathered (bit_and (get_or words i 0) all) m (λ j. (ltb i n && ltb j m) && held words i j) m-fits (and_below 64 (get_or words i 0) all low)
      (λ j.
      bit-and (get_or words i 0) all j ∙ ap (λ t. held words i j && t) (ap (λ w. bit w j) (made ∙ all_below m m-fits) ∙ bit_ones m j)
      ∙ and_swap (held words i j) (ltb j m) ∙ ap (λ t. (t && ltb j m) && held words i j) (sym (lt-ltb i n within)))
      (λ j h. ltb-true j m (and_parts (ltb i n) (ltb j m) (and_parts (ltb i n && ltb j m) (held words i j) h).0).1)

  pub lent_no_member : (i : ℕ) → n ≤ i → 0 ≡ slot_word (lent_grid n m words) i
  unfolding slot_word
  lent_no_member i past = gathers_nothing (λ j. (ltb i n && ltb j m) && held words i j) m m-fits (λ j. ap (λ t. (t && ltb j m) && held words i j) (le-ltb i n past))

  pub lent_no_word : (i : ℕ) → length words ≤ i → 0 ≡ slot_word (lent_grid n m words) i
  unfolding slot_word
  lent_no_word i past = gathers_nothing (λ j. (ltb i n && ltb j m) && held words i j) m m-fits (λ j. and_right (ltb i n && ltb j m) (held words i j) (held_missing words i j past))

  pub lent_no_slot : (j : ℕ) → m ≤ j → 0 ≡ member_word (lent_grid n m words) j
  unfolding slot_word
  lent_no_slot j past = gathers_nothing (λ i. (ltb i n && ltb j m) && held words i j) n n-fits (λ i. and_left (ltb i n && ltb j m) (held words i j) (and_right (ltb i n) (ltb j m) (le-ltb j m past)))

  pub lent_members : (j w : ℕ) → GatheredBelow (λ i. (ltb i n && ltb j m) && held words i j) (length words) w → w ≡ member_word (lent_grid n m words) j
  unfolding slot_word
  lent_members j w all =
      gathered w n (λ i. (ltb i n && ltb j m) && held words i j) n-fits all.0 (λ i. all.1 i ∙ ⊎_elim (within i) (past i) (cases_lt i (length words)))
      (λ i h. ltb-true i n (and_parts (ltb i n) (ltb j m) (and_parts (ltb i n && ltb j m) (held words i j) h).0).0)
    where
      within : (i : ℕ) → i < length words → (ltb i (length words) && ((ltb i n && ltb j m) && held words i j)) ≡ ((ltb i n && ltb j m) && held words i j)
      within i h = ap (λ t. t && ((ltb i n && ltb j m) && held words i j)) (lt-ltb i (length words) h)

      past : (i : ℕ) → length words ≤ i → (ltb i (length words) && ((ltb i n && ltb j m) && held words i j)) ≡ ((ltb i n && ltb j m) && held words i j)
      past i h = and_left _ _ (le-ltb i (length words) h) ∙ sym (and_right (ltb i n && ltb j m) (held words i j) (held_missing words i j h))
