-- The order of words: of two different words the one that holds the least number at which they differ comes first.
-- Assumes nothing.
use Rattle.std.specs.Prelude.{◌≡◌, ℕ, zero, suc, ◌+◌, ◌-◌, ◌/◌, ◌^◌, ◌<◌, Bool, true, false, cond, Decides, ◌==◌}
use Rattle.std.specs.declared.cmp.Ordering.TheVariants.{Less, Equal, Greater}
use Rattle.std.specs.declared.cmp.Ordering.{Ordering}
use Rattle.std.specs.Int.Count.{count_leading_zeros}
use Rattle.words.specs.Bits.{bit}

-- a comes before b
pub record Before (a b : ℕ) : Type 0 where
  pub at : ℕ
  pub held : bit a at ≡ true
  pub lacked : bit b at ≡ false
  pub alike : (i : ℕ) → i < at → bit a i ≡ bit b i

-- the same as a test over the numbers below k, the lowest first
unfoldable pub earlier : ℕ → ℕ → ℕ → Bool
earlier zero a b = false
earlier (suc k) a b =
    cond (bit a 0) (cond (bit b 0) (earlier k (a / 2) (b / 2)) true) (cond (bit b 0) false (earlier k (a / 2) (b / 2)))

-- whether word a comes before word b
unfoldable pub before : ℕ → ℕ → Bool
unfolding earlier
before a b = earlier 64 a b

-- how a stands to b: Less says that a comes before b
unfoldable pub word_order : ℕ → ℕ → Ordering
word_order a b = cond (before a b) Less (cond (before b a) Greater Equal)

-- what the order of words keeps to, over words below 2 ^ 64
pub record OrderLaws : Type 0 where
  pub means : (a b : ℕ) → a < 2 ^ 64 → b < 2 ^ 64 → Decides (before a b) (Before a b)
  pub irreflexive : (a : ℕ) → before a a ≡ false
  pub asymmetric : (a b : ℕ) → before a b ≡ true → before b a ≡ false
  pub transitive : (a b c : ℕ) → before a b ≡ true → before b c ≡ true → before a c ≡ true
  pub same : (a b : ℕ) → a < 2 ^ 64 → b < 2 ^ 64 → before a b ≡ false → before b a ≡ false → a ≡ b
  pub zero_last : (a : ℕ) → a < 2 ^ 64 → 0 < a → before a 0 ≡ true

-- the highest number that word w holds, where it holds any
unfoldable pub highest : ℕ → ℕ
highest w = 63 - count_leading_zeros 64 w

-- the word next after w: w without its highest number and with all numbers above that; for 0, after which no word comes, it is 0
unfoldable pub next_word : ℕ → ℕ
next_word w = cond (w == 0) 0 ((w - 2 ^ highest w) + (2 ^ 64 - 2 ^ suc (highest w)))
