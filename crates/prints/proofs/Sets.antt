-- The numbers of a word as they are printed, one more at a time. Assumes nothing.
use Rattle.std.proofs.Common.{◌≡◌, ℕ, ◌+◌, ◌^◌, ◌<◌, ◌≤◌, true, false, List, [], ◌∷◌, ◌++◌, length, decimal, sym, refl, ap, ◌∙◌, append_assoc, append-nil, add-one, arith, length-append}
use Rattle.std.specs.List.{AllByRecursion}
use Rattle.std.proofs.lemmas.Fmt.{decimal_nonempty, length-decimal-le}
use Rattle.std.proofs.lemmas.Bool.{cond-true, cond-false}
use Rattle.words.specs.Bits.{bit}
use Rattle.prints.specs.Prints.{numbers, commas}

-- what goes before one more number: a comma, unless it is the first
abbrev pub comma_after : List ℕ → List ℕ
comma_after [] = []
comma_after (n ∷ ns) = 44 ∷ []

pub commas_more : (ns : List ℕ) (m : ℕ) → commas (ns ++ m ∷ []) ≡ (commas ns ++ comma_after ns) ++ decimal m
unfolding commas
commas_more [] m = refl
commas_more (n ∷ []) m = sym (append_assoc (decimal n) (44 ∷ []) (decimal m))
commas_more (n ∷ k ∷ ns) m =
    ap (λ l. decimal n ++ 44 ∷ l) (commas_more (k ∷ ns) m)
    ∙ sym (append_assoc (decimal n) (44 ∷ (commas (k ∷ ns) ++ 44 ∷ [])) (decimal m))
    ∙ ap (λ l. l ++ decimal m) (sym (append_assoc (decimal n) (44 ∷ commas (k ∷ ns)) (44 ∷ [])))

numbers_held : (w i : ℕ) → bit w i ≡ true → numbers w (i + 1) ≡ numbers w i ++ i ∷ []
unfolding numbers
numbers_held w i held = ap (λ k. numbers w k) (add-one i) ∙ ap (λ l. numbers w i ++ l) (cond-true (bit w i) _ _ held)

pub numbers_lacked : (w i : ℕ) → bit w i ≡ false → numbers w (i + 1) ≡ numbers w i
unfolding numbers
numbers_lacked w i lacked =
    ap (λ k. numbers w k) (add-one i) ∙ ap (λ l. numbers w i ++ l) (cond-false (bit w i) _ _ lacked) ∙ append-nil (numbers w i)

pub set_text_more : (w i : ℕ) → bit w i ≡ true → commas (numbers w (i + 1)) ≡ (commas (numbers w i) ++ comma_after (numbers w i)) ++ decimal i
set_text_more w i held = ap commas (numbers_held w i held) ∙ commas_more (numbers w i) i

-- what goes before one more number, by whether something is written
pub comma_some : (ns : List ℕ) → 0 < length (commas ns) → 44 ∷ [] ≡ comma_after ns
unfolding commas
comma_some [] some = absurd (omega arith)
comma_some (n ∷ ns) some = refl

written_some : (n : ℕ) (ns : List ℕ) → n < 2 ^ 64 → 0 < length (commas (n ∷ ns))
unfolding commas
written_some n [] fits = decimal_nonempty n fits
written_some n (m ∷ ns) fits = simp length-append (omega arith)

pub comma_none : (ns : List ℕ) → AllByRecursion (λ n. n < 64) ns → length (commas ns) ≡ 0 → [] ≡ comma_after ns
comma_none [] all none = refl
comma_none (n ∷ ns) all none = absurd (omega (arith, written_some n ns (omega (arith, all.0)), none))

-- what is written once the comma is put where one belongs, behind what stood on the line
pub begun_some : (base ns text more : List ℕ) → text ≡ base ++ commas ns → length base < length text → more ≡ text ++ 44 ∷ [] → more ≡ (base ++ commas ns) ++ comma_after ns
begun_some base ns text more is longer pushed =
    pushed ∙ (λ i. is i ++ comma_some ns (omega (arith, ap length is, length-append base (commas ns))) i)

pub begun_none : (base ns text more : List ℕ) → AllByRecursion (λ n. n < 64) ns → text ≡ base ++ commas ns → length text ≤ length base → more ≡ text → more ≡ (base ++ commas ns) ++ comma_after ns
begun_none base ns text more all is short same =
    same
    ∙ sym (append-nil text)
    ∙ (λ i. is i ++ comma_none ns all (omega (arith, ap length is, length-append base (commas ns))) i)

-- one more of the numbers is written
pub written_more : (base : List ℕ) (w i : ℕ) → bit w i ≡ true → ((base ++ commas (numbers w i)) ++ comma_after (numbers w i)) ++ decimal i ≡ base ++ commas (numbers w (i + 1))
written_more base w i held =
    let ns = numbers w i in
    ap (λ l. l ++ decimal i) (append_assoc base (commas ns) (comma_after ns))
    ∙ append_assoc base (commas ns ++ comma_after ns) (decimal i)
    ∙ ap (λ l. base ++ l) (sym (set_text_more w i held))

pub two_digits : (i : ℕ) → i < 64 → length (decimal i) ≤ 2
two_digits i small = length-decimal-le 2 i (omega arith) (omega arith) (omega arith)
