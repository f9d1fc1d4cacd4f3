-- Words as sets of numbers: which numbers a word holds, and the word of the numbers that pass a test. Assumes nothing.
use Rattle.std.specs.Prelude.{ℕ, zero, suc, ◌+◌, ◌*◌, ◌/◌, ◌%◌, ◌^◌, Bool, true, cond, ◌&&◌, ◌==◌, nat_lt}

-- whether word w holds number i
unfoldable pub bit : ℕ → ℕ → Bool
bit w i = w / 2 ^ i % 2 == 1

-- the word that holds i alone, where i is below 64
unfoldable pub lone : ℕ → ℕ
lone i = cond (nat_lt i 64) (2 ^ i) 0

-- the word of those numbers below n that pass the test f
unfoldable pub gather : (ℕ → Bool) → ℕ → ℕ
gather f zero = 0
gather f (suc n) = cond (f 0) 1 0 + 2 * gather (λ i. f (suc i)) n

-- whether every number below n passes the test f
unfoldable pub every : (ℕ → Bool) → ℕ → Bool
every f zero = true
every f (suc n) = f n && every f n
