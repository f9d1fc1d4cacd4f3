-- How many pairs of a grid are marked. Assumes nothing.
use Rattle.std.specs.Prelude.{ℕ, zero, suc, ◌+◌, Bool, cond}

-- the sum of f over the numbers below n
unfoldable pub total : (ℕ → ℕ) → ℕ → ℕ
total f zero = 0
total f (suc n) = f n + total f n

-- how many pairs of a number below n and one below m are marked
unfoldable pub marks : ℕ → ℕ → (ℕ → ℕ → Bool) → ℕ
unfolding total
marks n m marked = total (λ i. total (λ j. cond (marked i j) 1 0) m) n
