-- How long the printed lines are at most. Assumes nothing.
use Rattle.std.proofs.Common.{◌≡◌, ℕ, zero, suc, ◌+◌, ◌-◌, ◌*◌, ◌<◌, ◌≤◌, true, List, [], ◌∷◌, length, decimal, sym, ap, ◌∙◌, subst, ⊎_elim, add-one, arith, length-append}
use Rattle.std.proofs.lemmas.Fmt.{length-decimal-le}
use Rattle.std.proofs.lemmas.Bool.{cases_Bool, cases_lt}
use Rattle.tables.specs.declared.refusals.SizeRefusal.TheVariants.{OutOfRange}
use Rattle.tables.specs.declared.refusals.RosterRefusal.TheVariants.{NoMember, NoSlot, NoPlace}
use Rattle.words.specs.Bits.{bit}
use Rattle.prints.specs.Prints.{numbers, commas, set_text}
use Rattle.texts.specs.Refusals.{cause_number}
use Rattle.texts.specs.declared.refusals.Cause.{Cause}
use Rattle.texts.specs.declared.refusals.Cause.TheVariants.{Form, Size, Roster}
use Rattle.prints.proofs.Sets.{comma_after, numbers_lacked, set_text_more, two_digits}

length_comma : (ns : List ℕ) → length (comma_after ns) ≤ 1
length_comma [] = omega arith
length_comma (n ∷ ns) = omega arith

one_digit : (i : ℕ) → i < 10 → length (decimal i) ≤ 1
one_digit i small = length-decimal-le 1 i (omega arith) (omega arith) (omega arith)

-- how many bytes the decimal digits of i take at most
digits_most : (i : ℕ) → i < 64 → length (decimal i) + (2 * i + (i - 10)) + 1 ≤ 2 * (i + 1) + (i + 1 - 10)
digits_most i small =
    ⊎_elim (λ one. omega (arith, one_digit i one)) (λ two. omega (arith, two_digits i small)) (cases_lt i 10)

-- the numbers below n, with a comma behind each
with_commas : (w n : ℕ) → n ≤ 64 → length (commas (numbers w n)) + length (comma_after (numbers w n)) ≤ 2 * n + (n - 10)
unfolding numbers commas
with_commas w zero h = omega arith
with_commas w (suc n) h =
    subst (λ k. length (commas (numbers w k)) + length (comma_after (numbers w k)) ≤ 2 * k + (k - 10)) (add-one n)
    (⊎_elim
    (λ held.
    let more : length (commas (numbers w (n + 1))) ≡ length (commas (numbers w n)) + length (comma_after (numbers w n)) + length (decimal n) =
    ap length (set_text_more w n held) ∙ simp length-append in
    omega (arith, more, with_commas w n (omega arith), length_comma (numbers w (n + 1)), digits_most n (omega arith)))
    (λ lacked.
    subst (λ l. length (commas l) + length (comma_after l) ≤ 2 * (n + 1) + (n + 1 - 10)) (sym (numbers_lacked w n lacked))
    (omega (arith, with_commas w n (omega arith))))
    (cases_Bool (bit w n)))

-- the last number has no comma behind it
without_last : (ns : List ℕ) → length (commas ns) + length (comma_after ns) ≤ 182 → length (commas ns) ≤ 181
unfolding commas
without_last [] h = omega arith
without_last (n ∷ ns) h = omega arith

-- the numbers below n, and all of a word
length_front : (w n : ℕ) → n ≤ 64 → length (commas (numbers w n)) ≤ 181
length_front w n h = without_last (numbers w n) (omega (arith, with_commas w n h))

pub length_set_text : (w : ℕ) → length (set_text w) ≤ 181
unfolding set_text
length_set_text w = length_front w 64 (omega arith)

-- there is room for one more number and what goes before it
pub number_room : (w i : ℕ) → i < 64 → bit w i ≡ true → length (commas (numbers w i)) + length (comma_after (numbers w i)) + length (decimal i) ≤ 181
number_room w i small held =
    let more : length (commas (numbers w (i + 1))) ≡ length (commas (numbers w i)) + length (comma_after (numbers w i)) + length (decimal i) = ap length (set_text_more w i held) ∙ simp length-append in
    omega (arith, more, length_front w (i + 1) (omega arith))

cause_small : (e : Cause) → cause_number e ≤ 7
cause_small Form = omega arith
cause_small (Size OutOfRange) = omega arith
cause_small (Roster NoMember) = omega arith
cause_small (Roster NoSlot) = omega arith
cause_small (Roster NoPlace) = omega arith

-- the number of a cause is one digit
pub cause_digit : (e : Cause) → length (decimal (cause_number e)) ≤ 1
cause_digit e = one_digit (cause_number e) (omega (arith, cause_small e))
