-- Words as sets: which is part of which, a word cut to the numbers below a bound, and the order of words with a number put in front.
-- Assumes nothing.
use Rattle.std.proofs.Common.{◌≡◌, ℕ, zero, suc, ◌+◌, ◌-◌, ◌*◌, ◌/◌, ◌%◌, ◌^◌, ◌<◌, ◌≤◌, Bool, true, false, cond, ◌&&◌, ◌||◌, eqb, ltb, Decides, sym, refl, ap, ◌∙◌, subst, ap₂, ⊎_elim, lt_of_lt_of_le, mod-lt, zero-add, arith, pow_pos, pow_mono}
use lib.Dec.{leb-zero, leb-suc-zero, leb-suc-suc}
use lib.Bits.{bit_and, bit_or, and_mask, and_le_l, or_lt}
use lib.Pow.{pow-lt}
use Rattle.std.proofs.lemmas.Bool.Decides.{Decides-below_and}
use Rattle.std.proofs.lemmas.Bool.{and_parts, and_from, cases_lt, cases_eq, or_right, both_ways, lt-ltb, eqb-true, eq-eqb, ne_eqb}
use Rattle.words.specs.Bits.{bit, every}
use Rattle.words.specs.Order.{earlier}
use Rattle.words.proofs.Bits.{bit_zero, bit_high, bits_same, bit-and, bit-or, bit_power, double_first, double_next}

-- every number of a is a number of b
abbrev pub Within : ℕ → ℕ → Type 0
Within a b = (i : ℕ) → bit a i ≡ true → bit b i ≡ true

-- ---- tests over the numbers below a bound

pub every_tells : (f : ℕ → Bool) (n : ℕ) → Decides (every f n) ((k : ℕ) → k < n → f k ≡ true)
unfolding every
every_tells f n = Decides-below_and f (λ k. f k ≡ true) (every f) (λ k. (λ h. h, λ h. h)) refl (λ _. refl) n

-- ---- parts

-- two tests that pass alike are one
pub same_tests : (a b : Bool) → (a ≡ true → b ≡ true) → (b ≡ true → a ≡ true) → a ≡ b
same_tests true b f g = sym (f refl)
same_tests false true f g = g refl
same_tests false false f g = refl

pub within_both : (k a b : ℕ) → a < 2 ^ k → b < 2 ^ k → Within a b → Within b a → a ≡ b
within_both k a b ha hb f g = bits_same k a b ha hb (λ i h. same_tests (bit a i) (bit b i) (f i) (g i))

pub within_left : (a b : ℕ) → Within (bit_and a b) a
within_left a b i h = (and_parts (bit a i) (bit b i) (sym (bit-and a b i) ∙ h)).0

pub within_right : (a b : ℕ) → Within (bit_and a b) b
within_right a b i h = (and_parts (bit a i) (bit b i) (sym (bit-and a b i) ∙ h)).1

pub and_below : (k a b : ℕ) → a < 2 ^ k → bit_and a b < 2 ^ k
and_below k a b h = omega (arith, and_le_l a b)

pub within_tells : (k a b : ℕ) → a < 2 ^ k → Decides (eqb (bit_and a b) a) (Within a b)
within_tells k a b h = (
  λ e i p. within_right a b i (subst (λ x. bit x i ≡ true) (sym (eqb-true (bit_and a b) a e)) p),
  λ f. eq-eqb (bit_and a b) a (within_both k (bit_and a b) a (and_below k a b h) h (within_left a b) (λ i p. bit-and a b i ∙ and_from (bit a i) (bit b i) p (f i p))),
)

-- what has a non-empty part is not empty
pub within_some : (k a b : ℕ) → a < 2 ^ k → Within a b → 0 < a → 0 < b
within_some k a zero h f p =
    let e : a ≡ 0 = bits_same k a 0 h (pow_pos k) (λ i _. same_tests (bit a i) (bit 0 i) (f i) (λ q. absurd (both_ways (bit 0 i) (bit_zero i) q))) in
    absurd (omega arith)
within_some k a (suc b) h f p = omega arith

-- a number held by a word below 2 ^ k is below k
pub held_below : (k w i : ℕ) → w < 2 ^ k → bit w i ≡ true → i < k
held_below k w i h e =
    ⊎_elim (λ l. l) (λ l. absurd (both_ways (bit w i) (bit_high w k i h l) e)) (cases_lt i k)

-- ---- a word cut to the numbers below a bound

ones_more : (n : ℕ) → 2 ^ suc n - 1 ≡ 1 + 2 * (2 ^ n - 1)
ones_more n = let p = pow_pos n in omega arith

pub bit_ones : (n i : ℕ) → bit (2 ^ n - 1) i ≡ ltb i n
bit_ones zero i = bit_zero i ∙ sym (leb-suc-zero i)
bit_ones (suc n) zero = rw (ones_more n) (double_first 1 (2 ^ n - 1) (omega arith) ∙ sym (leb-suc-suc 0 n ∙ leb-zero n))
bit_ones (suc n) (suc i) = rw (ones_more n) (double_next 1 (2 ^ n - 1) i (omega arith) ∙ bit_ones n i ∙ sym (leb-suc-suc (suc i) n))

and_turned : (a b : Bool) → (a && b) ≡ (b && a)
and_turned true true = refl
and_turned true false = refl
and_turned false true = refl
and_turned false false = refl

pub bit_cut : (w n i : ℕ) → bit (w % 2 ^ n) i ≡ (ltb i n && bit w i)
bit_cut w n i =
    ap (λ x. bit x i) (sym (and_mask w n)) ∙ bit-and w (2 ^ n - 1) i ∙ and_turned (bit w i) (bit (2 ^ n - 1) i)
    ∙ ap (λ t. t && bit w i) (bit_ones n i)

pub cut_below : (w n : ℕ) → w % 2 ^ n < 2 ^ n
cut_below w n = mod-lt w (pow_pos n)

pub cut_none : (w : ℕ) → w % 2 ^ 0 ≡ 0
cut_none w = omega arith

-- a cut word holds what the word holds below the bound
pub cut_holds : (w n i : ℕ) → i < n → bit (w % 2 ^ n) i ≡ bit w i
cut_holds w n i h = bit_cut w n i ∙ ap (λ t. t && bit w i) (lt-ltb i n h)

pub cut_lacks : (w n i : ℕ) → n ≤ i → bit (w % 2 ^ n) i ≡ false
cut_lacks w n i h = bit_high (w % 2 ^ n) n i (cut_below w n) h

or_none : (t : Bool) → (t || false) ≡ t
or_none true = refl
or_none false = refl

-- ---- one more number

pub with_below : (w n k : ℕ) → w < 2 ^ k → n < k → bit_or w (2 ^ n) < 2 ^ k
with_below w n k h l = or_lt k w (2 ^ n) h (pow-lt l)

pub with_number : (w n : ℕ) → bit (bit_or w (2 ^ n)) n ≡ true
with_number w n = bit-or w (2 ^ n) n ∙ or_right (bit w n) (bit (2 ^ n) n) (bit_power n n ∙ eq-eqb n n refl)

pub with_other : (w n i : ℕ) → (i ≡ n → ⊥) → bit (bit_or w (2 ^ n)) i ≡ bit w i
with_other w n i h = bit-or w (2 ^ n) i ∙ ap (λ t. bit w i || t) (bit_power n i ∙ ne_eqb i n h) ∙ or_none (bit w i)

-- the cut of a word below the next bound: with the number at the bound where the word holds it
pub cut_more : (w n : ℕ) → bit w n ≡ true → w % 2 ^ suc n ≡ bit_or (w % 2 ^ n) (2 ^ n)
cut_more w n h =
    bits_same (suc n) (w % 2 ^ suc n) (bit_or (w % 2 ^ n) (2 ^ n)) (cut_below w (suc n)) (with_below (w % 2 ^ n) n (suc n) (lt_of_lt_of_le (cut_below w n) (pow_mono (omega arith))) (omega arith)) each
  where
    each : (i : ℕ) → i < suc n → bit (w % 2 ^ suc n) i ≡ bit (bit_or (w % 2 ^ n) (2 ^ n)) i
    each i l =
        cut_holds w (suc n) i l
        ∙ ⊎_elim (λ e. rw e (h ∙ sym (with_number (w % 2 ^ n) n))) (λ e. sym (with_other (w % 2 ^ n) n i e ∙ cut_holds w n i (omega arith))) (cases_eq i n)

pub cut_same : (w n : ℕ) → bit w n ≡ false → w % 2 ^ suc n ≡ w % 2 ^ n
cut_same w n h =
    bits_same (suc n) (w % 2 ^ suc n) (w % 2 ^ n) (cut_below w (suc n)) (lt_of_lt_of_le (cut_below w n) (pow_mono (omega arith))) each
  where
    each : (i : ℕ) → i < suc n → bit (w % 2 ^ suc n) i ≡ bit (w % 2 ^ n) i
    each i l =
        cut_holds w (suc n) i l
        ∙ ⊎_elim (λ e. rw e (h ∙ sym (cut_lacks w n n (omega arith)))) (λ e. sym (cut_holds w n i (omega arith))) (cases_eq i n)

-- ---- the order with a lowest number put in front

same_both : (t e : Bool) → cond t (cond t e true) (cond t false e) ≡ e
same_both true e = refl
same_both false e = refl

half_of : (d w : ℕ) → d < 2 → (d + 2 * w) / 2 ≡ w
half_of d w h = omega arith

-- words that both hold number 0, or both lack it, stand to each other as what is above it does
pub earlier_same_front : (k d a b : ℕ) → d < 2 → earlier (suc k) (d + 2 * a) (d + 2 * b) ≡ earlier k a b
unfolding earlier
earlier_same_front k d a b h = rw (double_first d a h, double_first d b h, half_of d a h, half_of d b h) (same_both (eqb d 1) (earlier k a b))

-- a word with number 0 is earlier than one without
pub earlier_front : (k a b : ℕ) → earlier (suc k) (1 + 2 * a) (2 * b) ≡ true
unfolding earlier
earlier_front k a b = rw (← zero-add (2 * b), double_first 1 a (omega arith), double_first 0 b (omega arith))

pub earlier_no_front : (k a b : ℕ) → earlier (suc k) (2 * a) (2 * b) ≡ earlier k a b
earlier_no_front k a b = ap₂ (earlier (suc k)) (sym (zero-add (2 * a))) (sym (zero-add (2 * b))) ∙ earlier_same_front k 0 a b (omega arith)
