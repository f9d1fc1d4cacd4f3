-- What a card's lines do, one line at a time. Assumes nothing.
use Rattle.std.proofs.Common.{◌≡◌, ℕ, suc, ◌+◌, ◌-◌, ◌<◌, ◌≤◌, cond, List, [], ◌∷◌, length, is_ok, Ok, Err, Result, sym, refl, ap, ◌∙◌, add-one, arith}
use Rattle.tables.specs.Sheet.{Sheet, marking, clearing}
use Rattle.tables.specs.declared.refusals.RosterRefusal.{RosterRefusal}
use Rattle.texts.specs.Cards.{size_told, first_size, putting, after_put, roster_cause, go_on, applied, Applied}
use Rattle.texts.specs.Forms.{Said, form, size_line, free_line, off_line, blank_line, no_form, taken_apart}
use Rattle.texts.specs.Lines.{lines, lines_from}
use Rattle.texts.specs.Splits.{up_to, behind}
use Rattle.texts.specs.declared.refusals.Cause.{Cause}
use Rattle.texts.proofs.Lines.{lines_left, first_line, lines_whole}

-- the first line of a text, where a text without one has a blank one
pub first_told : (text : List ℕ) → size_told (form (up_to 10 text)) ≡ first_size (lines text)
unfolding lines lines_from up_to taken_apart
first_told [] = refl
first_told (b ∷ bs) =
    ap first_size (sym (lines_whole (b ∷ bs) ∙ first_line (length (b ∷ bs)) (b ∷ bs) (omega arith) (omega arith)))

-- a refused change leaves the sheet as it was
unchanged : (r : Result (Unit {0}) RosterRefusal) (e : Cause) (s t : Sheet) → roster_cause r ≡ Err e → cond (is_ok r) t s ≡ s
unchanged (Ok u) e s t is = let z : ◌≡◌ {A = ℕ} 0 1 = cc in absurd (omega arith)
unchanged (Err f) e s t is = refl

pub refused_put : (s : Sheet) (f : Said ℕ) (e : Cause) → putting s f ≡ Err e → after_put s f ≡ s
refused_put s (size_line n m) e is = refl
refused_put s (free_line n m) e is = unchanged (marking s n m) e s _ is
refused_put s (off_line n m) e is = unchanged (clearing s n m) e s _ is
refused_put s blank_line e is = refl
refused_put s no_form e is = refl

-- the lines of what is left of a text of length n, put on a sheet
abbrev pub applied_left : Sheet → ℕ → ℕ → List ℕ → Applied
applied_left s k n bs = applied s k (lines_left n bs)

pub applied_end : (s : Sheet) (k n : ℕ) (bs : List ℕ) → length bs ≡ 0 → applied_left s k n bs ≡ record { answer = Ok tt; after = s }
unfolding applied lines_from
applied_end s k n [] none = refl
applied_end s k n (b ∷ bs) none = absurd (omega arith)

first_applied : (s : Sheet) (k n : ℕ) (bs : List ℕ) → 0 < length bs → length bs ≤ n → applied_left s k n bs ≡ go_on k (n - length bs) s (applied_left (after_put s (form (up_to 10 bs))) (suc k) n (behind 10 bs)) (putting s (form (up_to 10 bs)))
unfolding applied
first_applied s k n bs some fits = ap (applied s k) (first_line n bs some fits)

-- the first line of what is left was put, and t is the sheet after it
pub record Put (s t : Sheet) (n : ℕ) (bs bytes : List ℕ) (answer : Result (Unit {0}) Cause) : Type 0 where
  pub some : 0 < length bs
  pub fits : length bs ≤ n
  pub first : bytes ≡ up_to 10 bs
  pub answers : answer ≡ putting s (form bytes)
  pub leaves : t ≡ after_put s (form bytes)

pub applied_fault : (s t : Sheet) (k n : ℕ) (bs bytes : List ℕ) (e : Cause) → Put s t n bs bytes (Err e) → applied_left s k n bs ≡ record { answer = Err (record { line = k; byte = n - length bs; cause = e }); after = t }
applied_fault s t k n bs bytes e put =
    first_applied s k n bs put.some put.fits
    ∙ ap (go_on k (n - length bs) s _) (ap (λ l. putting s (form l)) (sym put.first) ∙ sym put.answers)
    ∙ ap (λ v. record { answer = Err (record { line = k; byte = n - length bs; cause = e }); after = v }) (sym (put.leaves ∙ refused_put s (form bytes) e (sym put.answers)))

pub applied_more : (s t : Sheet) (k n : ℕ) (bs bytes rest : List ℕ) (u : Unit {0}) → Put s t n bs bytes (Ok u) → rest ≡ behind 10 bs → applied_left s k n bs ≡ applied_left t (k + 1) n rest
applied_more s t k n bs bytes rest u put back =
    first_applied s k n bs put.some put.fits
    ∙ ap (go_on k (n - length bs) s _) (ap (λ l. putting s (form l)) (sym put.first) ∙ sym put.answers)
    ∙ ap (λ v. applied_left v (suc k) n (behind 10 bs)) (ap (λ l. after_put s (form l)) (sym put.first) ∙ sym put.leaves)
    ∙ ap (λ l. applied_left t (suc k) n l) (sym back)
    ∙ ap (λ m. applied_left t m n rest) (sym (add-one k))
