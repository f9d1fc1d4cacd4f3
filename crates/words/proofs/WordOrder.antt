-- The laws of the order of words, each over a number of bits first, and what comes next after a word. Assumes nothing.
use Rattle.std.proofs.Common.{◌≡◌, ℕ, zero, suc, ◌+◌, ◌-◌, ◌*◌, ◌/◌, ◌%◌, ◌^◌, ◌<◌, ◌≤◌, Bool, true, false, cond, not, eqb, ltb, Decides, Ordering, Less, Equal, Greater, sym, refl, ap, ◌∙◌, ⊎_elim, suc-le-suc, lt_of_lt_of_le, le_of_suc-le-suc, eq-zero-or-pos, add_comm, one-mul, zero-add, arith, pow_pos, pow_mono}
use lib.Pow.{ones_lt, high_ones}
use lib.Dec.{leb-suc-suc}
use lib.Bits.{bit_or, bit_xor, xor_mod, xor_shr, or_shifted, or_shifted_r}
use lib.Count.{count_trailing_zeros, under, count_leading_zeros, leading_top}
use Rattle.std.specs.Ordering.{is_lt, ordering_reverse}
use Rattle.std.proofs.lemmas.Nat.{one_shl}
use Rattle.std.proofs.lemmas.Bool.{cases_lt, lt-ltb, ne_eqb, cond-false}
use Rattle.std.proofs.lemmas.Bool.Decides.{nat_tests, same_from_decides}
use Rattle.words.specs.Bits.{bit}
use Rattle.words.specs.Order.{Before, earlier, before, OrderLaws, word_order, highest, next_word}
use Rattle.words.proofs.Bits.{bit_first, bit_next, bit_zero, bit_high, double_first}

-- ---- one bit of two words, and what the higher bits tell

abbrev step : Bool → Bool → Bool → Bool
step x y e = cond x (cond y e true) (cond y false e)

pub earlier_step : (k a b : ℕ) → earlier (suc k) a b ≡ step (bit a 0) (bit b 0) (earlier k (a / 2) (b / 2))
unfolding earlier
earlier_step k a b = refl

step_same : (x e : Bool) → e ≡ false → step x x e ≡ false
step_same true e h = h
step_same false e h = h

step_turned : (x y e f : Bool) → (e ≡ true → f ≡ false) → step x y e ≡ true → step y x f ≡ false
step_turned true true e f h p = h p
step_turned true false e f h p = refl
step_turned false true e f h p = sym p
step_turned false false e f h p = h p

step_chain : (x y z e f g : Bool) → (e ≡ true → f ≡ true → g ≡ true) → step x y e ≡ true → step y z f ≡ true → step x z g ≡ true
step_chain true true true e f g h p q = h p q
step_chain true true false e f g h p q = refl
step_chain true false true e f g h p q = grind arith
step_chain true false false e f g h p q = refl
step_chain false true true e f g h p q = grind arith
step_chain false true false e f g h p q = grind arith
step_chain false false true e f g h p q = q
step_chain false false false e f g h p q = h p q

step_not : (x y e : Bool) → not (step x y e) ≡ step y x (not e)
step_not true true e = refl
step_not true false e = refl
step_not false true e = refl
step_not false false e = refl

-- where neither of two words is before the other, their lowest bits agree, and the test goes on above them
step_neither : (x y e f : Bool) → step x y e ≡ false → step y x f ≡ false → (x ≡ y) × (e ≡ false) × (f ≡ false)
step_neither true true e f p q = (refl, p, q)
step_neither true false e f p q = (p, grind arith, grind arith)
step_neither false true e f p q = (sym q, grind arith, grind arith)
step_neither false false e f p q = (refl, p, q)

-- ---- the laws over k bits

pub earlier_irreflexive : (k a : ℕ) → earlier k a a ≡ false
unfolding earlier
earlier_irreflexive zero a = refl
earlier_irreflexive (suc k) a = step_same (bit a 0) _ (earlier_irreflexive k (a / 2))

pub earlier_asym : (k a b : ℕ) → earlier k a b ≡ true → earlier k b a ≡ false
unfolding earlier
earlier_asym zero a b h = refl
earlier_asym (suc k) a b h = step_turned (bit a 0) (bit b 0) _ _ (earlier_asym k (a / 2) (b / 2)) h

pub earlier_trans : (k a b c : ℕ) → earlier k a b ≡ true → earlier k b c ≡ true → earlier k a c ≡ true
unfolding earlier
earlier_trans zero a b c p q = p
earlier_trans (suc k) a b c p q = step_chain (bit a 0) (bit b 0) (bit c 0) _ _ _ (earlier_trans k (a / 2) (b / 2) (c / 2)) p q

same_low : (a b : ℕ) → bit a 0 ≡ bit b 0 → a % 2 ≡ b % 2
same_low a b e =
    let d : eqb (a % 2) 1 ≡ eqb (b % 2) 1 = sym (bit_first a) ∙ e ∙ bit_first b in
    let p : a % 2 < 2 = omega arith in
    let q : b % 2 < 2 = omega arith in
    grind (arith, nat_tests)

pub earlier_same : (k a b : ℕ) → a < 2 ^ k → b < 2 ^ k → earlier k a b ≡ false → earlier k b a ≡ false → a ≡ b
unfolding earlier
earlier_same zero a b ha hb p q = omega arith
earlier_same (suc k) a b ha hb p q =
    let n = step_neither (bit a 0) (bit b 0) _ _ p q in
    let low : a % 2 ≡ b % 2 = same_low a b n.0 in
    let high : a / 2 ≡ b / 2 = earlier_same k (a / 2) (b / 2) (omega arith) (omega arith) n.1 n.2 in
    omega arith

pub earlier_zero : (k a : ℕ) → earlier k 0 a ≡ false
unfolding earlier
earlier_zero zero a = refl
earlier_zero (suc k) a = rw (bit_zero 0) (if_none (bit a 0) _ (earlier_zero k (a / 2)))
  where
    if_none : (x e : Bool) → e ≡ false → cond x false e ≡ false
    if_none true e h = refl
    if_none false e h = h

-- the word of all k numbers is the first of the words of k bits
pub earlier_all : (k a : ℕ) → earlier k a (2 ^ k - 1) ≡ false
unfolding earlier
earlier_all zero a = refl
earlier_all (suc k) a =
    let low : (2 ^ suc k - 1) % 2 ≡ 1 = let h = pow_pos k in omega arith in
    let high : (2 ^ suc k - 1) / 2 ≡ 2 ^ k - 1 = omega arith in
    let lowest : bit (2 ^ suc k - 1) 0 ≡ true = bit_first (2 ^ suc k - 1) ∙ ap (λ x. eqb x 1) low in
    rw (lowest, high) (if_held (bit a 0) _ (earlier_all k (a / 2)))
  where
    if_held : (x e : Bool) → e ≡ false → cond x e false ≡ false
    if_held true e h = h
    if_held false e h = refl

-- ---- what the test means

next_alike : (a b n : ℕ) → bit a 0 ≡ bit b 0 → ((i : ℕ) → i < n → bit (a / 2) i ≡ bit (b / 2) i) → (i : ℕ) → i < suc n → bit a i ≡ bit b i
next_alike a b n e h zero l = e
next_alike a b n e h (suc i) l = bit_next a i ∙ h i (le_of_suc-le-suc l) ∙ sym (bit_next b i)

before_above : (a b : ℕ) → bit a 0 ≡ bit b 0 → Before (a / 2) (b / 2) → Before a b
before_above a b e p = record {
  at = suc p.at;
  held = bit_next a p.at ∙ p.held;
  lacked = bit_next b p.at ∙ p.lacked;
  alike = next_alike a b p.at e p.alike;
}

found_step : (a b : ℕ) (x y e : Bool) → bit a 0 ≡ x → bit b 0 ≡ y → (e ≡ true → Before (a / 2) (b / 2)) → step x y e ≡ true → Before a b
found_step a b true true e p q h t = before_above a b (p ∙ sym q) (h t)
found_step a b true false e p q h t = record { at = 0; held = p; lacked = q; alike = λ i l. absurd (omega arith) }
found_step a b false true e p q h t = absurd (grind arith)
found_step a b false false e p q h t = before_above a b (p ∙ sym q) (h t)

pub earlier_found : (k a b : ℕ) → earlier k a b ≡ true → Before a b
unfolding earlier
earlier_found zero a b h = absurd (grind arith)
earlier_found (suc k) a b h = found_step a b (bit a 0) (bit b 0) _ refl refl (earlier_found k (a / 2) (b / 2)) h

step_alike : (x y e : Bool) → x ≡ y → e ≡ true → step x y e ≡ true
step_alike true true e p h = h
step_alike true false e p h = refl
step_alike false true e p h = p
step_alike false false e p h = h

pub earlier_from : (k a b n : ℕ) → bit a n ≡ true → bit b n ≡ false → ((i : ℕ) → i < n → bit a i ≡ bit b i) → n < k → earlier k a b ≡ true
unfolding earlier
earlier_from zero a b n p q h l = absurd (omega arith)
earlier_from (suc k) a b zero p q h l = rw (p, q)
earlier_from (suc k) a b (suc n) p q h l =
    step_alike (bit a 0) (bit b 0) _ (h 0 (omega arith))
    (earlier_from k (a / 2) (b / 2) n (sym (bit_next a n) ∙ p) (sym (bit_next b n) ∙ q) (λ i m. sym (bit_next a i) ∙ h (suc i) (suc-le-suc m) ∙ bit_next b i) (le_of_suc-le-suc l))

held_below : (k a n : ℕ) → a < 2 ^ k → bit a n ≡ true → n < k
held_below k a n h p = ⊎_elim (λ l. l) (λ l. absurd (grind (arith, bit_high a k n h l))) (cases_lt n k)

pub earlier_tells : (k a b : ℕ) → a < 2 ^ k → b < 2 ^ k → Decides (earlier k a b) (Before a b)
earlier_tells k a b ha hb = (earlier_found k a b, λ p. earlier_from k a b p.at p.held p.lacked p.alike (held_below k a p.at ha p.held))

-- more bits than two words have change nothing
pub earlier_wider : (j k a b : ℕ) → j ≤ k → a < 2 ^ j → b < 2 ^ j → earlier j a b ≡ earlier k a b
earlier_wider j k a b l ha hb =
    same_from_decides _ _ (earlier_tells j a b ha hb) (earlier_tells k a b (lt_of_lt_of_le ha (pow_mono l)) (lt_of_lt_of_le hb (pow_mono l)))

-- ---- the laws of words

pub before_tells : (a b : ℕ) → a < 2 ^ 64 → b < 2 ^ 64 → Decides (before a b) (Before a b)
unfolding before
before_tells a b ha hb = earlier_tells 64 a b ha hb

-- the test over k bits, at words of at most k of the 64
pub earlier_before : (k a b : ℕ) → k ≤ 64 → a < 2 ^ k → b < 2 ^ k → earlier k a b ≡ before a b
unfolding before
earlier_before k a b l ha hb = earlier_wider k 64 a b l ha hb

pub before_irreflexive : (a : ℕ) → before a a ≡ false
unfolding before
before_irreflexive a = earlier_irreflexive 64 a

pub before_asym : (a b : ℕ) → before a b ≡ true → before b a ≡ false
unfolding before
before_asym a b h = earlier_asym 64 a b h

pub before_trans : (a b c : ℕ) → before a b ≡ true → before b c ≡ true → before a c ≡ true
unfolding before
before_trans a b c p q = earlier_trans 64 a b c p q

pub before_same : (a b : ℕ) → a < 2 ^ 64 → b < 2 ^ 64 → before a b ≡ false → before b a ≡ false → a ≡ b
unfolding before
before_same a b ha hb p q = earlier_same 64 a b ha hb p q

true_or : (x : Bool) → (x ≡ false → ⊥) → x ≡ true
true_or true h = refl
true_or false h = absurd (h refl)

pub before_total : (a b : ℕ) → a < 2 ^ 64 → b < 2 ^ 64 → (a ≡ b → ⊥) → before a b ≡ false → before b a ≡ true
before_total a b ha hb d p = true_or (before b a) (λ q. d (before_same a b ha hb p q))

pub zero_before : (a : ℕ) → before 0 a ≡ false
unfolding before
zero_before a = earlier_zero 64 a

pub zero_last : (a : ℕ) → a < 2 ^ 64 → 0 < a → before a 0 ≡ true
zero_last a h p = before_total 0 a (omega arith) h (λ e. omega arith) (zero_before a)

pub order_laws : OrderLaws
order_laws = record {
  means = before_tells;
  irreflexive = before_irreflexive;
  asymmetric = before_asym;
  transitive = before_trans;
  same = before_same;
  zero_last = zero_last;
}

-- ---- the least number at which two words differ

-- how a stands to b by their lowest k bits
abbrev order_in : ℕ → ℕ → ℕ → Ordering
order_in k a b = cond (earlier k a b) Less (cond (earlier k b a) Greater Equal)

-- the same read off at the number t, where t is k if the lowest k bits agree
abbrev read_at : ℕ → ℕ → ℕ → Ordering
read_at k a t = cond (ltb t k) (cond (bit a t) Less Greater) Equal

read_next : (k a t : ℕ) → read_at (suc k) a (suc t) ≡ read_at k (a / 2) t
read_next k a t = rw (bit_next a t, leb-suc-suc (suc t) k)

agree_step : (k a b : ℕ) (x y : ℕ) → a % 2 ≡ x → b % 2 ≡ y → x < 2 → y < 2
    → order_in k (a / 2) (b / 2) ≡ read_at k (a / 2) (count_trailing_zeros k (bit_xor (a / 2) (b / 2)))
    → order_in (suc k) a b ≡ read_at (suc k) a (under (bit_xor x y) (count_trailing_zeros k (bit_xor (a / 2) (b / 2))))
unfolding earlier
agree_step k a b zero zero p q l m h =
    rw (bit_first a, bit_first b, p, q) (rw (read_next k a (count_trailing_zeros k (bit_xor (a / 2) (b / 2)))) h)
agree_step k a b zero (suc zero) p q l m h = rw (bit_first a, bit_first b, p, q) (rw (lt-ltb 0 (suc k) (omega arith)))
agree_step k a b zero (suc (suc y)) p q l m h = absurd (omega arith)
agree_step k a b (suc zero) zero p q l m h = rw (bit_first a, bit_first b, p, q) (rw (lt-ltb 0 (suc k) (omega arith)))
agree_step k a b (suc zero) (suc zero) p q l m h = rw (bit_first a, bit_first b, p, q) (rw (read_next k a (count_trailing_zeros k (bit_xor (a / 2) (b / 2)))) h)
agree_step k a b (suc zero) (suc (suc y)) p q l m h = absurd (omega arith)
agree_step k a b (suc (suc x)) y p q l m h = absurd (omega arith)

pub order_by_xor : (k a b : ℕ) → order_in k a b ≡ read_at k a (count_trailing_zeros k (bit_xor a b))
unfolding earlier count_trailing_zeros
order_by_xor zero a b = refl
order_by_xor (suc k) a b =
    rw (xor_mod a b 1, xor_shr a b 1) (agree_step k a b (a % 2) (b % 2) refl refl (omega arith) (omega arith) (order_by_xor k (a / 2) (b / 2)))

-- ---- the word next after another

-- x without its highest number t and with all numbers above that, among k
abbrev raised : ℕ → ℕ → ℕ → ℕ
raised k t x = (x - 2 ^ t) + (2 ^ k - 2 ^ suc t)

raised_parts : (k t x : ℕ) → 2 ^ suc t ≤ x → raised (suc k) (suc t) x ≡ x % 2 + 2 * raised k t (x / 2)
raised_parts k t x ge =
    let above : 2 ^ t ≤ x / 2 = omega arith in
    let lower : x - 2 ^ suc t ≡ x % 2 + 2 * (x / 2 - 2 ^ t) = omega arith in
    let upper : 2 ^ suc k - 2 ^ suc (suc t) ≡ 2 * (2 ^ k - 2 ^ suc t) = omega arith in
    omega arith

raised_lowest : (k t x : ℕ) → 2 ^ suc t ≤ x → bit (raised (suc k) (suc t) x) 0 ≡ bit x 0
raised_lowest k t x ge = rw (raised_parts k t x ge) (double_first (x % 2) (raised k t (x / 2)) (omega arith) ∙ sym (bit_first x))

raised_half : (k t x : ℕ) → 2 ^ suc t ≤ x → raised (suc k) (suc t) x / 2 ≡ raised k t (x / 2)
raised_half k t x ge = omega arith

-- at the lowest number, x being 1
raised_one : (k y : ℕ) → not (earlier (suc k) y (2 ^ suc k - 2)) ≡ earlier (suc k) 1 y
raised_one k y =
    let low : (2 ^ suc k - 2) % 2 ≡ 0 = omega arith in
    let high : (2 ^ suc k - 2) / 2 ≡ 2 ^ k - 1 = omega arith in
    let lowest : bit (2 ^ suc k - 2) 0 ≡ false = bit_first (2 ^ suc k - 2) ∙ ap (λ d. eqb d 1) low in
    let own : bit 1 0 ≡ true = bit_first 1 in
    rw (earlier_step k y (2 ^ suc k - 2), earlier_step k 1 y, lowest, high, own) (if_first (bit y 0) _ _ (earlier_all k (y / 2)) (earlier_zero k (y / 2)))
  where
    if_first : (x e f : Bool) → e ≡ false → f ≡ false → not (step x false e) ≡ step true x f
    if_first true e f p q = sym q
    if_first false e f p q = ap not p

raised_after : (k t x y : ℕ) → 2 ^ t ≤ x → x < 2 ^ suc t → t < k → not (earlier k y (raised k t x)) ≡ earlier k x y
raised_after zero t x y ge lt l = absurd (omega arith)
raised_after (suc k) zero x y ge lt l =
    let one : x ≡ 1 = omega arith in
    rw (one, zero-add (2 ^ suc k - 2)) (raised_one k y)
raised_after (suc k) (suc t) x y ge lt l =
    let above : 2 ^ t ≤ x / 2 = omega arith in
    let below : x / 2 < 2 ^ suc t = omega arith in
    rw (earlier_step k y (raised (suc k) (suc t) x), earlier_step k x y, raised_lowest k t x ge, raised_half k t x ge)
    (step_not (bit y 0) (bit x 0) _ ∙ ap (step (bit x 0) (bit y 0)) (raised_after k t (x / 2) (y / 2) above below (le_of_suc-le-suc l)))

-- the highest number of a word that is not 0
highest_held : (x : ℕ) → 0 < x → x < 2 ^ 64 → (2 ^ highest x ≤ x) × (x < 2 ^ suc (highest x)) × (highest x < 64)
unfolding highest
highest_held x p h =
    let (j, e, ge, lt) = leading_top 64 x p h in
    let is : 63 - count_leading_zeros 64 x ≡ j = omega arith in
    rw is (ge, lt, omega arith)

pub next_is : (x : ℕ) → 0 < x → next_word x ≡ raised 64 (highest x) x
unfolding next_word
next_is x p = cond-false _ _ _ (ne_eqb x 0 (λ e. omega arith))

-- every word after x is next_word x or comes after it, and no other is
pub next_after : (x y : ℕ) → 0 < x → x < 2 ^ 64 → not (before y (next_word x)) ≡ before x y
unfolding before
next_after x y p h =
    let (ge, lt, l) = highest_held x p h in
    rw (next_is x p) (raised_after 64 (highest x) x y ge lt l)

pub next_zero : next_word 0 ≡ 0
unfolding next_word
next_zero = refl

pub next_below : (x : ℕ) → x < 2 ^ 64 → next_word x < 2 ^ 64
next_below x h = ⊎_elim none some (eq-zero-or-pos x)
  where
    none : x ≡ 0 → next_word x < 2 ^ 64
    none e = let z : next_word x ≡ 0 = ap next_word e ∙ next_zero in omega arith

    some : 0 < x → next_word x < 2 ^ 64
    some p =
        let (ge, lt, l) = highest_held x p h in
        let room = pow_mono l in
        rw (next_is x p) (omega arith)

-- a word whose highest number is t, as successor computes with it
raised_bits : (t x : ℕ) → x < 2 ^ suc t → t < 64 → bit_or (x - 2 ^ t) (18446744073709551615 - bit_or (2 ^ t) (2 ^ t - 1)) ≡ raised 64 t x
raised_bits t x lt l =
    let whole : (63 - t) + suc t ≡ 64 = omega arith in
    let top : bit_or (2 ^ t) (2 ^ t - 1) ≡ 2 ^ t + (2 ^ t - 1) = ap (λ p. bit_or p (2 ^ t - 1)) (sym (one-mul (2 ^ t))) ∙ or_shifted 1 t (2 ^ t - 1) (ones_lt t) ∙ ap (λ p. p + (2 ^ t - 1)) (one-mul (2 ^ t)) in
    let room = pow_pos t in
    let high : 2 ^ 64 - 2 ^ suc t ≡ (2 ^ (63 - t) - 1) * 2 ^ suc t = ap (λ k. 2 ^ k - 2 ^ suc t) (sym whole) ∙ high_ones (63 - t) (suc t) in
    let above : 18446744073709551615 - bit_or (2 ^ t) (2 ^ t - 1) ≡ (2 ^ (63 - t) - 1) * 2 ^ suc t = rw top (omega arith) in
    let low : x - 2 ^ t < 2 ^ suc t = omega arith in
    rw above (or_shifted_r (2 ^ (63 - t) - 1) (suc t) (x - 2 ^ t) low ∙ ap (λ p. p + (x - 2 ^ t)) (sym high) ∙ add_comm (2 ^ 64 - 2 ^ suc t) (x - 2 ^ t))

pub top_shifted : (x : ℕ) → 0 < x → x < 2 ^ 64 → (1 * 2 ^ (63 - count_leading_zeros 64 x)) % 2 ^ 64 ≡ 2 ^ highest x
unfolding highest
top_shifted x p h = one_shl (63 - count_leading_zeros 64 x) 64 (highest_held x p h).2

pub top_held : (x : ℕ) → 0 < x → x < 2 ^ 64 → 2 ^ highest x ≤ x
top_held x p h = (highest_held x p h).0

pub next_bits : (x : ℕ) → 0 < x → x < 2 ^ 64 → bit_or (x - 2 ^ highest x) (18446744073709551615 - bit_or (2 ^ highest x) (2 ^ highest x - 1)) ≡ next_word x
next_bits x p h = let (ge, lt, l) = highest_held x p h in raised_bits (highest x) x lt l ∙ sym (next_is x p)

-- what compare reads off at the least number where two words differ
pub word_order_by_xor : (a b : ℕ) → word_order a b ≡ cond (ltb (count_trailing_zeros 64 (bit_xor a b)) 64) (cond (bit a (count_trailing_zeros 64 (bit_xor a b))) Less Greater) Equal
unfolding word_order before
word_order_by_xor a b = order_by_xor 64 a b

pub word_order_less : (a b : ℕ) → word_order a b ≡ Less → before a b ≡ true
unfolding word_order
word_order_less a b h = grind arith

pub word_order_is_lt : (a b : ℕ) → is_lt (word_order a b) ≡ before a b
unfolding word_order
word_order_is_lt a b = grind arith

-- ---- the order of words as an answer

pub word_order_itself : (a : ℕ) → word_order a a ≡ Equal
unfolding word_order
word_order_itself a = rw (before_irreflexive a)

pub word_order_same : (a b : ℕ) → a < 2 ^ 64 → b < 2 ^ 64 → word_order a b ≡ Equal → a ≡ b
unfolding word_order
word_order_same a b ha hb e = by_tests (before a b) (before b a) refl refl e
  where
    by_tests : (x y : Bool) → before a b ≡ x → before b a ≡ y → cond x Less (cond y Greater Equal) ≡ Equal → a ≡ b
    by_tests true y p q h = absurd (grind arith)
    by_tests false true p q h = absurd (grind arith)
    by_tests false false p q h = before_same a b ha hb p q

pub word_order_turned : (a b : ℕ) → word_order b a ≡ ordering_reverse (word_order a b)
unfolding word_order
word_order_turned a b = by_tests (before a b) (before b a) (before_asym a b)
  where
    by_tests : (x y : Bool) → (x ≡ true → y ≡ false) → cond y Less (cond x Greater Equal) ≡ ordering_reverse (cond x Less (cond y Greater Equal))
    by_tests true true h = absurd (grind arith)
    by_tests true false h = refl
    by_tests false true h = refl
    by_tests false false h = refl

pub word_order_chain : (a b c : ℕ) → word_order a b ≡ Less → word_order b c ≡ Less → word_order a c ≡ Less
unfolding word_order
word_order_chain a b c p q = rw (before_trans a b c (word_order_less a b p) (word_order_less b c q))
