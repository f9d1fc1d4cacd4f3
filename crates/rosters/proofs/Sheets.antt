-- When mark and clear are accepted, and what the sheet then is. Assumes nothing.
use Rattle.std.proofs.Common.{◌≡◌, ℕ, ◌+◌, ◌-◌, ◌<◌, Bool, true, false, cond, ◌&&◌, ◌||◌, eqb, ltb, is_ok, Ok, Err, sym, ap, ◌∙◌, ap₂, ⊎_elim, add-zero}
use mathlib.Core.Path.{fun_ext}
use native.Mathlib.Nat.{sub-zero}
use Rattle.std.proofs.lemmas.Bool.{cases_Bool, eqb-true, lt-ltb, cond-true, cond-false, and_parts, or_left}
use Rattle.tables.specs.Grid.{Grid}
use Rattle.tables.specs.declared.refusals.RosterRefusal.TheVariants.{NoPlace}
use Rattle.tables.specs.Sheet.{Sheet, sheet, with_pair, marking, after_mark, clearing, after_clear}

module _ (s : Sheet) (i j : ℕ) (hi : i < s.grid.members) (hj : j < s.grid.slots) where
  pub marking_taken : (s.grid.marked i j || ltb 0 s.free) ≡ true → marking s i j ≡ Ok tt
  marking_taken place =
      cond-true (ltb i s.grid.members) _ _ (lt-ltb i _ hi) ∙ cond-true (ltb j s.grid.slots) _ _ (lt-ltb j _ hj) ∙ cond-true _ _ _ place

  pub after_mark_taken : (s.grid.marked i j || ltb 0 s.free) ≡ true → after_mark s i j ≡ sheet (with_pair s.grid i j true) (s.free - cond (s.grid.marked i j) 0 1)
  after_mark_taken place = cond-true _ _ _ (ap is_ok (marking_taken place))

  -- no place is free for a pair that is not marked
  pub marking_full : (s.grid.marked i j || ltb 0 s.free) ≡ false → marking s i j ≡ Err NoPlace
  marking_full full =
      cond-true (ltb i s.grid.members) _ _ (lt-ltb i _ hi) ∙ cond-true (ltb j s.grid.slots) _ _ (lt-ltb j _ hj) ∙ cond-false _ _ _ full

  pub after_mark_full : (s.grid.marked i j || ltb 0 s.free) ≡ false → after_mark s i j ≡ s
  after_mark_full full = cond-false _ _ _ (ap is_ok (marking_full full))

  pub clearing_taken : clearing s i j ≡ Ok tt
  clearing_taken = cond-true (ltb i s.grid.members) _ _ (lt-ltb i _ hi) ∙ cond-true (ltb j s.grid.slots) _ _ (lt-ltb j _ hj)

  pub after_clear_taken : after_clear s i j ≡ sheet (with_pair s.grid i j false) (s.free + cond (s.grid.marked i j) 1 0)
  after_clear_taken = cond-true _ _ _ (ap is_ok clearing_taken)

-- a pair that is already as told leaves the grid as it was
pub with_pair_same : (g : Grid) (i j : ℕ) (told : Bool) → g.marked i j ≡ told → with_pair g i j told ≡ g
with_pair_same g i j told h =
    ap (λ f. record { members = g.members; slots = g.slots; marked = f }) (fun_ext (λ a. fun_ext (λ b. same a b)))
  where
    same : (a b : ℕ) → cond (eqb a i && eqb b j) told (g.marked a b) ≡ g.marked a b
    same a b =
        ⊎_elim
        (λ e.
        let parts = and_parts (eqb a i) (eqb b j) e in
        cond-true _ told _ e ∙ sym h ∙ sym (ap (λ k. g.marked k b) (eqb-true a i parts.0) ∙ ap (g.marked i) (eqb-true b j parts.1)))
        (λ e. cond-false _ told _ e)
        (cases_Bool (eqb a i && eqb b j))

-- a pair that is marked already changes nothing when it is marked, nor one that is not when it is cleared
module _ (s : Sheet) (i j : ℕ) (hi : i < s.grid.members) (hj : j < s.grid.slots) where
  pub after_mark_same : s.grid.marked i j ≡ true → after_mark s i j ≡ s
  after_mark_same h =
      after_mark_taken s i j hi hj (or_left _ _ h)
      ∙ ap₂ sheet (with_pair_same s.grid i j true h) (ap (λ b. s.free - cond b 0 1) h ∙ sub-zero s.free)

  pub after_clear_same : s.grid.marked i j ≡ false → after_clear s i j ≡ s
  after_clear_same h =
      after_clear_taken s i j hi hj
      ∙ ap₂ sheet (with_pair_same s.grid i j false h) (ap (λ b. s.free + cond b 1 0) h ∙ add-zero s.free)
