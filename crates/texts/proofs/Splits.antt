-- What is cut at the place of the first byte of a kind. Assumes nothing.
use Rattle.std.proofs.Common.{◌≡◌, ℕ, suc, ◌+◌, ◌==◌, Bool, true, false, not, cond, ltb, List, [], ◌∷◌, length, take, drop, Some, None, sym, refl, ap, ◌∙◌, ⊎_elim, arith}
use Rattle.std.specs.List.{position, position_or_len}
use Rattle.std.proofs.lemmas.Bool.{cases_lt, cond-true, cond-false, lt-ltb, le-ltb}
use Rattle.std.proofs.lemmas.List.{take_all, drop_all}
use Rattle.texts.specs.Splits.{up_to, behind}

-- the place of the first mark, or the length
abbrev place : ℕ → List ℕ → ℕ
place mark bs = position_or_len (λ b. b == mark) bs

up_to_step : (b : ℕ) (bs front : List ℕ) (n : ℕ) (t : Bool) → take n bs ≡ front → take (cond (not t) (1 + n) 0) (b ∷ bs) ≡ cond t [] (b ∷ front)
up_to_step b bs front n true is = refl
up_to_step b bs front n false is = let one : 1 + n ≡ suc n = omega arith in ap (λ k. take k (b ∷ bs)) one ∙ ap (λ l. b ∷ l) is

up_to_place : (mark : ℕ) (bs : List ℕ) → take (place mark bs) bs ≡ up_to mark bs
unfolding up_to
up_to_place mark [] = refl
up_to_place mark (b ∷ bs) = up_to_step b bs (up_to mark bs) (place mark bs) (b == mark) (up_to_place mark bs)

behind_step : (b : ℕ) (bs back : List ℕ) (n : ℕ) (t : Bool) → drop (n + 1) bs ≡ back → drop (cond (not t) (1 + n) 0 + 1) (b ∷ bs) ≡ cond t bs back
behind_step b bs back n true is = refl
behind_step b bs back n false is = let one : 1 + n + 1 ≡ suc (n + 1) = omega arith in ap (λ k. drop k (b ∷ bs)) one ∙ is

behind_place : (mark : ℕ) (bs : List ℕ) → drop (place mark bs + 1) bs ≡ behind mark bs
unfolding behind
behind_place mark [] = refl
behind_place mark (b ∷ bs) = behind_step b bs (behind mark bs) (place mark bs) (b == mark) (behind_place mark bs)

-- where a mark stands at a place
pub split_some : (mark at : ℕ) (bs : List ℕ) → Some at ≡ position (λ b. b == mark) bs → (take at bs ≡ up_to mark bs) × (drop (at + 1) bs ≡ behind mark bs)
split_some mark at bs is =
    ⊎_elim
    (λ within.
    let some : Some at ≡ Some (place mark bs) = is ∙ cond-true (ltb (place mark bs) (length bs)) _ _ (lt-ltb _ _ within) in
    let same : at ≡ place mark bs = cc in
    (ap (λ n. take n bs) same ∙ up_to_place mark bs, ap (λ n. drop (n + 1) bs) same ∙ behind_place mark bs))
    (λ past.
    let none : Some at ≡ None = is ∙ cond-false (ltb (place mark bs) (length bs)) _ _ (le-ltb _ _ past) in
    let z : ◌≡◌ {A = ℕ} 0 1 = cc in absurd (omega arith))
    (cases_lt (place mark bs) (length bs))

-- where no mark stands
pub split_none : (mark : ℕ) (bs : List ℕ) → None ≡ position (λ b. b == mark) bs → (bs ≡ up_to mark bs) × ([] ≡ behind mark bs)
split_none mark bs is =
    ⊎_elim
    (λ within.
    let some : None ≡ Some (place mark bs) = is ∙ cond-true (ltb (place mark bs) (length bs)) _ _ (lt-ltb _ _ within) in
    let z : ◌≡◌ {A = ℕ} 0 1 = cc in absurd (omega arith))
    (λ past. (
      sym (take_all (place mark bs) bs past) ∙ up_to_place mark bs,
      sym (drop_all (place mark bs + 1) bs (omega (arith, past))) ∙ behind_place mark bs,
    ))
    (cases_lt (place mark bs) (length bs))
