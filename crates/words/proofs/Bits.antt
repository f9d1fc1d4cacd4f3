-- The laws of the bits of a word, each over the number at hand. Assumes nothing.
use Rattle.std.proofs.Common.{◌≡◌, ℕ, zero, suc, ◌+◌, ◌-◌, ◌*◌, ◌/◌, ◌%◌, ◌^◌, ◌<◌, ◌≤◌, min, Bool, true, false, cond, not, ◌&&◌, ◌||◌, eqb, ltb, sym, refl, ap, ◌∙◌, ap₂, suc-le-suc, lt_of_lt_of_le, pow-suc, div-one, one-add, arith, pow_pos, pow_mono, shr-shr, lt-ltb}
use native.Mathlib.Nat.{div-eq_of_lt}
use lib.Dec.{leb-zero, leb-suc-zero, leb-suc-suc, eqb-zero-suc, eqb-suc-zero, eqb-suc-suc}
use lib.Bits.{bit_and, bit_or, bit_xor, and_shr, or_shr, xor_shr, and_mod, or_mod, xor_mod, and_lt}
use Rattle.std.proofs.lemmas.Bool.{cond-true}
use Rattle.std.proofs.lemmas.Bool.Decides.{nat_tests}
use Rattle.words.specs.Bits.{bit, lone, gather}

-- ---- the lowest bit, and the others

pub bit_first : (w : ℕ) → bit w 0 ≡ eqb (w % 2) 1
unfolding bit
bit_first w = ap (λ x. eqb (x % 2) 1) (div-one w)

pub bit_next : (w i : ℕ) → bit w (suc i) ≡ bit (w / 2) i
unfolding bit
bit_next w i = ap (λ x. eqb (x % 2) 1) (sym (shr-shr w 1 i ∙ ap (λ k. w / 2 ^ k) (one-add i)))

double_odd : (d w : ℕ) → d < 2 → (d + 2 * w) % 2 ≡ d
double_odd d w h = omega arith

double_half : (d w : ℕ) → d < 2 → (d + 2 * w) / 2 ≡ w
double_half d w h = omega arith

pub double_first : (d w : ℕ) → d < 2 → bit (d + 2 * w) 0 ≡ eqb d 1
double_first d w h = bit_first (d + 2 * w) ∙ ap (λ x. eqb x 1) (double_odd d w h)

pub double_next : (d w i : ℕ) → d < 2 → bit (d + 2 * w) (suc i) ≡ bit w i
double_next d w i h = bit_next (d + 2 * w) i ∙ ap (λ x. bit x i) (double_half d w h)

pub bit_zero : (i : ℕ) → bit 0 i ≡ false
bit_zero zero = bit_first 0
bit_zero (suc i) = bit_next 0 i ∙ bit_zero i

-- a word below 2 ^ k holds no number from k on
pub bit_high : (w k i : ℕ) → w < 2 ^ k → k ≤ i → bit w i ≡ false
unfolding bit
bit_high w k i h le = ap (λ x. eqb (x % 2) 1) (div-eq_of_lt (lt_of_lt_of_le h (pow_mono le)))

half_below : (w k : ℕ) → w < 2 ^ suc k → w / 2 < 2 ^ k
half_below w k h = let e = pow-suc 2 k in omega arith

-- two words that hold the same numbers are one word
same_digit : (a b : ℕ) → a < 2 → b < 2 → eqb a 1 ≡ eqb b 1 → a ≡ b
same_digit a b h k e = grind (arith, nat_tests)

pub bits_same : (k a b : ℕ) → a < 2 ^ k → b < 2 ^ k → ((i : ℕ) → i < k → bit a i ≡ bit b i) → a ≡ b
bits_same zero a b ha hb e = omega arith
bits_same (suc k) a b ha hb e =
    let low : a % 2 ≡ b % 2 = same_digit (a % 2) (b % 2) (omega arith) (omega arith) (sym (bit_first a) ∙ e 0 (omega arith) ∙ bit_first b) in
    let high : a / 2 ≡ b / 2 = bits_same k (a / 2) (b / 2) (half_below a k ha) (half_below b k hb) (λ i h. sym (bit_next a i) ∙ e (suc i) (suc-le-suc h) ∙ bit_next b i) in
    omega arith

-- ---- and, or, exclusive or

and_digit : (x y : ℕ) → x < 2 → y < 2 → eqb (bit_and x y) 1 ≡ (eqb x 1 && eqb y 1)
and_digit zero zero h k = refl
and_digit zero (suc zero) h k = refl
and_digit zero (suc (suc y)) h k = absurd (omega arith)
and_digit (suc zero) zero h k = refl
and_digit (suc zero) (suc zero) h k = refl
and_digit (suc zero) (suc (suc y)) h k = absurd (omega arith)
and_digit (suc (suc x)) y h k = absurd (omega arith)

pub bit-and : (a b i : ℕ) → bit (bit_and a b) i ≡ (bit a i && bit b i)
unfolding bit
bit-and a b i =
    ap (λ x. eqb (x % 2) 1) (and_shr a b i) ∙ ap (λ x. eqb x 1) (and_mod (a / 2 ^ i) (b / 2 ^ i) 1)
    ∙ and_digit (a / 2 ^ i % 2) (b / 2 ^ i % 2) (omega arith) (omega arith)

or_digit : (x y : ℕ) → x < 2 → y < 2 → eqb (bit_or x y) 1 ≡ (eqb x 1 || eqb y 1)
or_digit zero zero h k = refl
or_digit zero (suc zero) h k = refl
or_digit zero (suc (suc y)) h k = absurd (omega arith)
or_digit (suc zero) zero h k = refl
or_digit (suc zero) (suc zero) h k = refl
or_digit (suc zero) (suc (suc y)) h k = absurd (omega arith)
or_digit (suc (suc x)) y h k = absurd (omega arith)

pub bit-or : (a b i : ℕ) → bit (bit_or a b) i ≡ (bit a i || bit b i)
unfolding bit
bit-or a b i =
    ap (λ x. eqb (x % 2) 1) (or_shr a b i) ∙ ap (λ x. eqb x 1) (or_mod (a / 2 ^ i) (b / 2 ^ i) 1)
    ∙ or_digit (a / 2 ^ i % 2) (b / 2 ^ i % 2) (omega arith) (omega arith)

-- ---- one bit

twice : (x : ℕ) → x * 2 ≡ 0 + 2 * x
twice x = omega arith

pub bit_power : (k i : ℕ) → bit (2 ^ k) i ≡ eqb i k
bit_power zero zero = bit_first 1
bit_power zero (suc i) = bit_next 1 i ∙ bit_zero i ∙ sym (eqb-suc-zero i)
bit_power (suc k) zero = ap (λ x. bit x 0) (pow-suc 2 k ∙ twice (2 ^ k)) ∙ double_first 0 (2 ^ k) (omega arith) ∙ sym (eqb-zero-suc k)
bit_power (suc k) (suc i) = ap (λ x. bit x (suc i)) (pow-suc 2 k ∙ twice (2 ^ k)) ∙ double_next 0 (2 ^ k) i (omega arith) ∙ bit_power k i ∙ sym (eqb-suc-suc i k)

-- ---- a word from a test

digit_below : (b : Bool) → cond b 1 0 < 2
digit_below true = omega arith
digit_below false = omega arith

digit_tells : (b : Bool) → eqb (cond b 1 0) 1 ≡ b
digit_tells true = refl
digit_tells false = refl

pub gather_below : (f : ℕ → Bool) (n : ℕ) → gather f n < 2 ^ n
unfolding gather
gather_below f zero = omega arith
gather_below f (suc n) = let e = pow-suc 2 n in let h = gather_below (λ i. f (suc i)) n in let d = digit_below (f 0) in omega arith

pub bit_gather : (f : ℕ → Bool) (n i : ℕ) → bit (gather f n) i ≡ (ltb i n && f i)
unfolding gather
bit_gather f zero i = bit_zero i ∙ sym (ap (λ t. t && f i) (leb-suc-zero i))
bit_gather f (suc n) zero =
    double_first (cond (f 0) 1 0) (gather (λ i. f (suc i)) n) (digit_below (f 0)) ∙ digit_tells (f 0)
    ∙ sym (ap (λ t. t && f 0) (leb-suc-suc 0 n ∙ leb-zero n))
bit_gather f (suc n) (suc i) =
    double_next (cond (f 0) 1 0) (gather (λ i. f (suc i)) n) i (digit_below (f 0)) ∙ bit_gather (λ i. f (suc i)) n i
    ∙ sym (ap (λ t. t && f (suc i)) (leb-suc-suc (suc i) n))

pub gather_all : (n : ℕ) → gather (λ _. true) n ≡ 2 ^ n - 1
unfolding gather
gather_all zero = refl
gather_all (suc n) = let e = pow-suc 2 n in let h = gather_all n in let p = pow_pos n in omega arith

-- a word below 2 ^ n is gathered from its own bits
pub gather_bits : (w n : ℕ) → w < 2 ^ n → gather (bit w) n ≡ w
gather_bits w n h = bits_same n (gather (bit w) n) w (gather_below (bit w) n) h (λ i l. bit_gather (bit w) n i ∙ ap (λ t. t && bit w i) (lt-ltb i n l))

pub gather_and : (f h : ℕ → Bool) (n : ℕ) → gather (λ i. f i && h i) n ≡ bit_and (gather f n) (gather h n)
gather_and f h n =
    bits_same n (gather (λ i. f i && h i) n) (bit_and (gather f n) (gather h n)) (gather_below (λ i. f i && h i) n) (and_lt n _ _ (gather_below f n) (gather_below h n))
    (λ i l.
    bit_gather (λ i. f i && h i) n i ∙ ap (λ t. t && (f i && h i)) (lt-ltb i n l)
    ∙ sym (bit-and (gather f n) (gather h n) i ∙ ap₂ ◌&&◌ (bit_gather f n i ∙ ap (λ t. t && f i) (lt-ltb i n l)) (bit_gather h n i ∙ ap (λ t. t && h i) (lt-ltb i n l))))

-- a word of which f tells the bits, all of them below k, is gathered from f
pub gathered : (w k : ℕ) (f : ℕ → Bool) → k ≤ 64 → w < 2 ^ 64 → ((i : ℕ) → bit w i ≡ f i) → ((i : ℕ) → f i ≡ true → i < k) → w ≡ gather f k
gathered w k f fits below same within =
    bits_same 64 w (gather f k) below (lt_of_lt_of_le (gather_below f k) (pow_mono fits))
    (λ i l. same i ∙ sym (bit_gather f k i ∙ cut (f i) (ltb i k) (λ e. lt-ltb i k (within i e))))
  where
    cut : (b t : Bool) → (b ≡ true → t ≡ true) → (t && b) ≡ b
    cut true t h = ap (λ s. s && true) (h refl)
    cut false true h = refl
    cut false false h = refl

-- the word of one number
pub bit_lone : (k i : ℕ) → k < 64 → bit (lone k) i ≡ eqb i k
unfolding lone
bit_lone k i h = ap (λ x. bit x i) (cond-true (ltb k 64) (2 ^ k) 0 (lt-ltb k 64 h)) ∙ bit_power k i

xor_digit : (x y : ℕ) → x < 2 → y < 2 → eqb (bit_xor x y) 1 ≡ cond (eqb x 1) (not (eqb y 1)) (eqb y 1)
xor_digit zero zero h k = refl
xor_digit zero (suc zero) h k = refl
xor_digit zero (suc (suc y)) h k = absurd (omega arith)
xor_digit (suc zero) zero h k = refl
xor_digit (suc zero) (suc zero) h k = refl
xor_digit (suc zero) (suc (suc y)) h k = absurd (omega arith)
xor_digit (suc (suc x)) y h k = absurd (omega arith)

pub bit-xor : (a b i : ℕ) → bit (bit_xor a b) i ≡ cond (bit a i) (not (bit b i)) (bit b i)
unfolding bit
bit-xor a b i =
    ap (λ x. eqb (x % 2) 1) (xor_shr a b i) ∙ ap (λ x. eqb x 1) (xor_mod (a / 2 ^ i) (b / 2 ^ i) 1)
    ∙ xor_digit (a / 2 ^ i % 2) (b / 2 ^ i % 2) (omega arith) (omega arith)

pub lone_power : (k : ℕ) → k < 64 → lone k ≡ 2 ^ k
unfolding lone
lone_power k h = cond-true (ltb k 64) (2 ^ k) 0 (lt-ltb k 64 h)

-- the word of all numbers below n, as the code makes it
pub all_below : (n : ℕ) → n ≤ 64 → 2 ^ min n 64 - 1 ≡ 2 ^ n - 1
all_below n h = let e : min n 64 ≡ n = omega arith in ap (λ k. 2 ^ k - 1) e
