-- Nothing but the listed forms is read, and each of them is. Assumes nothing.
use Rattle.std.proofs.Common.{◌≡◌, ℕ, ◌+◌, ◌-◌, ◌*◌, ◌/◌, ◌%◌, ◌<◌, ◌≤◌, Bool, true, false, cond, ◌&&◌, eqb, leb, ◌⊎◌, List, [], ◌∷◌, ◌++◌, length, Some, None, decimal, Option, sym, refl, ap, ◌∙◌, subst, inl, inr, ⊎_elim, arith}
use Rattle.std.proofs.lemmas.Fmt.{decimal_digit, decimal_step}
use Rattle.std.proofs.lemmas.Bool.{eqb-true, leb-true, ne_eqb, and_parts, cond-true, cond-false, cases_lt}
use Rattle.std.proofs.lemmas.Bool.Decides.{nat_tests}
use Rattle.texts.specs.Forms.{Said, size_line, free_line, off_line, no_form, after, size_word, free_word, off_word, with_fields, taken_apart, digit, field_number, with_numbers, numbered, form, line_of, Tells, FormLaws}
use Rattle.texts.specs.Splits.{up_to, behind}

-- the digits of a number below 100
digits_short : (n : ℕ) → n < 100 → ((n < 10) × (decimal n ≡ (48 + n) ∷ [])) ⊎ ((10 ≤ n) × (decimal n ≡ (48 + n / 10) ∷ (48 + n % 10) ∷ []))
digits_short n h =
    ⊎_elim (λ one. inl (one, decimal_digit n one))
    (λ two. inr (two, decimal_step n two (omega arith) ∙ ap (λ l. l ++ (48 + n % 10) ∷ []) (decimal_digit (n / 10) (omega arith))))
    (cases_lt n 10)

digit_bounds : (u : ℕ) → digit u ≡ true → (48 ≤ u) × (u ≤ 57)
digit_bounds u is =
    let parts = and_parts (leb 48 u) (leb u 57) is in
    (leb-true 48 u parts.0, leb-true u 57 parts.1)

one_only : (t : Bool) (u n : ℕ) → digit u ≡ t → cond t (Some (u - 48)) None ≡ Some n → (n < 100) × (u ∷ [] ≡ decimal n)
one_only false u n is e = let z : ◌≡◌ {A = ℕ} 0 1 = cc in absurd (omega arith)
one_only true u n is e =
    let same : u - 48 ≡ n = cc in
    let unit = digit_bounds u is in
    let small : n < 10 = omega arith in
    (omega arith, ap (λ b. b ∷ []) (omega arith) ∙ sym (decimal_digit n small))

two_only : (t : Bool) (a u n : ℕ) → (digit a && leb 49 a && digit u) ≡ t → cond t (Some ((a - 48) * 10 + (u - 48))) None ≡ Some n → (n < 100) × (a ∷ u ∷ [] ≡ decimal n)
two_only false a u n is e = let z : ◌≡◌ {A = ℕ} 0 1 = cc in absurd (omega arith)
two_only true a u n is e =
    let same : (a - 48) * 10 + (u - 48) ≡ n = cc in
    let all = and_parts (digit a && leb 49 a) (digit u) is in
    let tens = and_parts (digit a) (leb 49 a) all.0 in
    let low = leb-true 49 a tens.1 in
    let high = digit_bounds a tens.0 in
    let unit = digit_bounds u all.1 in
    let more : 10 ≤ n = omega arith in
    let is-ten : a ≡ 48 + n / 10 = omega arith in
    let is-unit : u ≡ 48 + n % 10 = omega arith in (
      omega arith,
      (λ i. is-ten i ∷ is-unit i ∷ []) ∙ sym (decimal_step n more (omega arith) ∙ ap (λ l. l ++ (48 + n % 10) ∷ []) (decimal_digit (n / 10) (omega arith))),
    )

field_only : (bs : List ℕ) (n : ℕ) → field_number bs ≡ Some n → (n < 100) × (bs ≡ decimal n)
field_only [] n e = let z : ◌≡◌ {A = ℕ} 0 1 = cc in absurd (omega arith)
field_only (u ∷ []) n e = one_only (digit u) u n refl e
field_only (a ∷ u ∷ []) n e = two_only (digit a && leb 49 a && digit u) a u n refl e
field_only (a ∷ b ∷ c ∷ cs) n e = let z : ◌≡◌ {A = ℕ} 0 1 = cc in absurd (omega arith)

field_digits : (n : ℕ) → n < 100 → field_number (decimal n) ≡ Some n
field_digits n h =
    ⊎_elim
    (λ one. ap field_number one.1 ∙ cond-true (digit (48 + n)) _ _ (let small = one.0 in grind (arith, nat_tests)) ∙ ap Some (omega arith))
    (λ two.
    ap field_number two.1
    ∙ cond-true (digit (48 + n / 10) && leb 49 (48 + n / 10) && digit (48 + n % 10)) _ _ (let large = two.0 in grind (arith, nat_tests))
    ∙ ap Some (omega arith))
    (digits_short n h)

-- bytes with a mark in them are what stands before it, the mark and what stands behind it
rejoin_step : (t : Bool) (mark b : ℕ) (bs : List ℕ) → eqb b mark ≡ t → (0 < length (behind mark bs) → up_to mark bs ++ mark ∷ behind mark bs ≡ bs) → 0 < length (cond t bs (behind mark bs)) → cond t [] (b ∷ up_to mark bs) ++ mark ∷ cond t bs (behind mark bs) ≡ b ∷ bs
rejoin_step true mark b bs is rest some = ap (λ x. x ∷ bs) (sym (eqb-true b mark is))
rejoin_step false mark b bs is rest some = ap (λ l. b ∷ l) (rest some)

rejoin : (mark : ℕ) (bs : List ℕ) → 0 < length (behind mark bs) → up_to mark bs ++ mark ∷ behind mark bs ≡ bs
unfolding up_to behind
rejoin mark [] some = absurd (omega arith)
rejoin mark (b ∷ bs) some = rejoin_step (eqb b mark) mark b bs refl (rejoin mark bs) some

after_step : (t : Bool) (w b : ℕ) (ws bs rest : List ℕ) → eqb b w ≡ t → (after ws bs ≡ Some rest → bs ≡ ws ++ rest) → cond t (after ws bs) None ≡ Some rest → b ∷ bs ≡ w ∷ (ws ++ rest)
after_step true w b ws bs rest is more e = (λ i. eqb-true b w is i ∷ more e i)
after_step false w b ws bs rest is more e = let z : ◌≡◌ {A = ℕ} 0 1 = cc in absurd (omega arith)

after_only : (ws bs rest : List ℕ) → after ws bs ≡ Some rest → bs ≡ ws ++ rest
after_only [] bs rest e = cc
after_only (w ∷ ws) [] rest e = let z : ◌≡◌ {A = ℕ} 0 1 = cc in absurd (omega arith)
after_only (w ∷ ws) (b ∷ bs) rest e = after_step (eqb b w) w b ws bs rest refl (after_only ws bs rest) e

-- the line is word with the numbers n and m
abbrev Writes : List ℕ → ℕ → ℕ → List ℕ → Type 0
Writes word n m line = (n < 100) × (m < 100) × (line ≡ line_of word n m)

-- two fields behind a word that write numbers
writes_fields : (word line rest : List ℕ) (n m : ℕ) → line ≡ word ++ rest → field_number (up_to 32 rest) ≡ Some n → field_number (behind 32 rest) ≡ Some m → Writes word n m line
writes_fields word line rest n m is first second =
    let a = field_only (up_to 32 rest) n first in
    let b = field_only (behind 32 rest) m second in
    let some : 0 < length (behind 32 rest) = some_field (behind 32 rest) m second in
    (a.0, b.0, is ∙ ap (λ l. word ++ l) (sym (rejoin 32 rest some) ∙ (λ i. a.1 i ++ 32 ∷ b.1 i)))
  where
    some_field : (bs : List ℕ) (n : ℕ) → field_number bs ≡ Some n → 0 < length bs
    some_field [] n e = let z : ◌≡◌ {A = ℕ} 0 1 = cc in absurd (omega arith)
    some_field (b ∷ bs) n e = omega arith

tells_fields : (says : ℕ → ℕ → Said ℕ) (word line : List ℕ) → ((n m : ℕ) → Writes word n m line → Tells (says n m) line) → (rest : List ℕ) → line ≡ word ++ rest → (first second : Option ℕ) → field_number (up_to 32 rest) ≡ first → field_number (behind 32 rest) ≡ second → Tells (with_numbers says first second) line
tells_fields says word line tell rest is None second e f = tt
tells_fields says word line tell rest is (Some n) None e f = tt
tells_fields says word line tell rest is (Some n) (Some m) e f = tell n m (writes_fields word line rest n m is e f)

tells_line : (line : List ℕ) (size free off : Option (List ℕ)) → after size_word line ≡ size → after free_word line ≡ free → after off_word line ≡ off → Tells (numbered (with_fields size_line size (with_fields free_line free (with_fields off_line off no_form)))) line
unfolding with_fields
tells_line line (Some rest) free off s f o = tells_fields size_line size_word line (λ n m w. w) rest (after_only size_word line rest s) _ _ refl refl
tells_line line None (Some rest) off s f o = tells_fields free_line free_word line (λ n m w. w) rest (after_only free_word line rest f) _ _ refl refl
tells_line line None None (Some rest) s f o = tells_fields off_line off_word line (λ n m w. w) rest (after_only off_word line rest o) _ _ refl refl
tells_line line None None None s f o = tt

only : (line : List ℕ) → Tells (form line) line
unfolding taken_apart
only [] = refl
only (b ∷ bs) = tells_line (b ∷ bs) _ _ _ refl refl refl

-- bytes with a space behind them are cut at that space
abbrev Splits : List ℕ → List ℕ → Type 0
Splits bs front = (up_to 32 (front ++ 32 ∷ bs) ≡ front) × (behind 32 (front ++ 32 ∷ bs) ≡ bs)

split_mark : (bs : List ℕ) → Splits bs []
unfolding up_to behind
split_mark bs = (refl, refl)

split_one : (b : ℕ) (front bs : List ℕ) → eqb b 32 ≡ false → Splits bs front → Splits bs (b ∷ front)
unfolding up_to behind
split_one b front bs other rest =
    (cond-false (eqb b 32) _ _ other ∙ ap (λ l. b ∷ l) rest.0, cond-false (eqb b 32) _ _ other ∙ rest.1)

-- digits hold no space
split_digits : (n : ℕ) (bs : List ℕ) → n < 100 → Splits bs (decimal n)
split_digits n bs h =
    ⊎_elim
    (λ one. subst (Splits bs) (sym one.1) (split_one (48 + n) [] bs (ne_eqb _ _ (λ e. omega arith)) (split_mark bs)))
    (λ two.
    subst (Splits bs) (sym two.1)
    (split_one (48 + n / 10) ((48 + n % 10) ∷ []) bs (ne_eqb _ _ (λ e. omega arith)) (split_one (48 + n % 10) [] bs (ne_eqb _ _ (λ e. omega arith)) (split_mark bs))))
    (digits_short n h)

both_digits : (says : ℕ → ℕ → Said ℕ) (n m : ℕ) → n < 100 → m < 100 → with_numbers says (field_number (up_to 32 (decimal n ++ 32 ∷ decimal m))) (field_number (behind 32 (decimal n ++ 32 ∷ decimal m))) ≡ says n m
both_digits says n m h k =
    let parts = split_digits n (decimal m) h in
    λ i. with_numbers says ((ap field_number parts.0 ∙ field_digits n h) i) ((ap field_number parts.1 ∙ field_digits m k) i)

pub form_laws : FormLaws
unfolding taken_apart with_fields
form_laws = record {
  only = only;
  blank = refl;
  size = both_digits size_line;
  free = both_digits free_line;
  off = both_digits off_line;
}
