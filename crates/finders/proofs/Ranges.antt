-- How many of the numbers below n pass a test. Assumes nothing.
use Rattle.std.proofs.Common.{◌≡◌, ℕ, suc, ◌+◌, Bool, true, ◌∷◌, [], length, refl, ap, ◌∙◌, filter, cond, false, length-append}
use Rattle.std.specs.List.{range_with_len}
use Rattle.words.proofs.Ranges.{passing_more}

-- how many numbers below n + 1 pass
pub passed_more : (p : ℕ → Bool) (n : ℕ) → length (filter p (range_with_len 0 (suc n))) ≡ length (filter p (range_with_len 0 n)) + cond (p n) 1 0
passed_more p n =
    ap length (passing_more p n) ∙ length-append (filter p (range_with_len 0 n)) (cond (p n) (n ∷ []) [])
    ∙ ap (λ k. length (filter p (range_with_len 0 n)) + k) (one (p n))
  where
    one : (b : Bool) → length (cond b (n ∷ []) []) ≡ cond b 1 0
    one true = refl
    one false = refl
