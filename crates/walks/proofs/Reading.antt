-- Slot words that were read from a table stand for its grid. Assumes nothing.
use Rattle.std.proofs.Common.{◌≡◌, ℕ, zero, suc, ◌+◌, ◌<◌, ◌≤◌, List, length, get_or, sym, ap, ◌∙◌, subst, ⊎_elim, arith}
use mathlib.Core.Path.{fun_ext}
use lib.ListN.{get_or-eq_default}
use Rattle.std.proofs.lemmas.Bool.{cases_Bool, cases_lt, cases_eq}
use denote.Param.Members.{Mut, Called}
use Rattle.std.specs.Array.{IsFromFnResultFrom}
use Rattle.words.specs.Bits.{bit}
use Rattle.words.proofs.Bits.{bit_zero}
use Rattle.tables.specs.Filed.{held, Inside}
use Rattle.tables.specs.Grid.{Grid, Proper, slot_word}
use Rattle.tables.proofs.Closure.{slot_word_holds}

module _ (g : Grid) (proper : Proper g) (words : List ℕ) (long : length words ≡ 64) (read : (i : ℕ) → i < 64 → get_or words i 0 ≡ slot_word g i) where
  pub read_marks : (i j : ℕ) → held words i j ≡ g.marked i j
  read_marks i j =
      ⊎_elim
      (λ l. ap (λ w. bit w j) (read i l) ∙ slot_word_holds g proper i j)
      (λ past.
      ap (λ w. bit w j) (get_or-eq_default words 0 (omega arith)) ∙ bit_zero j
      ∙ sym (⊎_elim (λ e. let h = (proper.inside i j e).0 in let fits = proper.members_fit in absurd (omega arith)) (λ e. e) (cases_Bool (g.marked i j))))
      (cases_lt i 64)

  pub read_inside : Inside g.members g.slots words
  read_inside i j h = proper.inside i j (sym (read_marks i j) ∙ h)

  pub read_grid : (n m : ℕ) → n ≡ g.members → m ≡ g.slots → record { members = n; slots = m; marked = held words } ≡ g
  read_grid n m en em = λ k. record { members = en k; slots = em k; marked = fun_ext (λ i. fun_ext (λ j. read_marks i j)) k }

-- an array that is made by calls which each tell h of their number, and leave the closure as it was, is that of h
module _ {F : Type 0} (g : Mut F (ℕ × Unit {0}) ℕ) (f : F) (h : ℕ → ℕ) (tells : (i y : ℕ) (q : F) → Called g f (i, tt) y q → (q ≡ f) × (y ≡ h i)) where
  pub made_from : (n i : ℕ) (p : F) (ys : List ℕ) → p ≡ f → IsFromFnResultFrom g p ys i n → (k : ℕ) → i ≤ k → k < i + n → get_or ys k 0 ≡ h k
  made_from zero i p ys e made k l m = absurd (omega arith)
  made_from (suc n) i p ys e made k l m =
      let told = tells i made.1 made.0 (subst (λ p. Called g p (i, tt) made.1 made.0) e made.3) in
      ⊎_elim
      (λ here. ap (λ j. get_or ys j 0) here ∙ made.2.1 0 ∙ told.1 ∙ sym (ap h here))
      (λ later. made_from n (i + 1) made.0 ys told.0 made.4 k (omega arith) (omega arith))
      (cases_eq k i)
