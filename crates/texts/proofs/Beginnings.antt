-- How a line is taken apart: what it begins with decides. Assumes nothing.
use Rattle.std.proofs.Common.{◌≡◌, ℕ, ◌<◌, ◌&&◌, Bool, true, false, eqb, cond, List, [], ◌∷◌, length, take, drop, Some, None, Option, sym, refl, ap, ◌∙◌, arith}
use Rattle.std.proofs.lemmas.Bool.{true≢false, false≢true, ne_eqb, eqb-true}
use Rattle.std.specs.Cmp.{first_so}
use Rattle.std.specs.Cmp.Lexicographic.{pointwise}
use Rattle.texts.specs.Splits.{up_to, behind}
use Rattle.texts.specs.Forms.{size_line, free_line, off_line, no_form, after, size_word, free_word, off_word, with_fields, taken_apart}

-- whether bytes begin with a word
abbrev pub begins : List ℕ → List ℕ → Bool
begins word bs = pointwise eqb (take (length word) bs) word

-- what begins with a word is not blank, and does not begin with one whose first byte is another
begun : (w : ℕ) (ws bs : List ℕ) → begins (w ∷ ws) bs ≡ true → 0 < length bs
begun w ws [] is = absurd (false≢true is)
begun w ws (b ∷ bs) is = omega arith

unlike : (w v : ℕ) (ws vs bs : List ℕ) → (w ≡ v → ⊥) → begins (w ∷ ws) bs ≡ true → begins (v ∷ vs) bs ≡ false
unlike w v ws vs [] other is = absurd (false≢true is)
unlike w v ws vs (b ∷ bs) other is =
    ap (λ t. t && begins vs bs) (ne_eqb b v (λ e. other (sym (eqb-true b w (first_so (eqb b w) (begins ws bs) is)) ∙ e)))

word_step : (t s : Bool) (o back : Option (List ℕ)) → (t && s) ≡ true → (s ≡ true → o ≡ back) → cond t o None ≡ back
word_step true s o back is more = more is
word_step false s o back is more = absurd (false≢true is)

after_word : (ws bs : List ℕ) → begins ws bs ≡ true → after ws bs ≡ Some (drop (length ws) bs)
after_word [] bs is = refl
after_word (w ∷ ws) [] is = absurd (false≢true is)
after_word (w ∷ ws) (b ∷ bs) is = word_step (eqb b w) (begins ws bs) _ _ is (after_word ws bs)

not_step : (t s : Bool) (o : Option (List ℕ)) → (t && s) ≡ false → (s ≡ false → o ≡ None) → cond t o None ≡ None
not_step true s o is more = more is
not_step false s o is more = refl

after_not : (ws bs : List ℕ) → begins ws bs ≡ false → after ws bs ≡ None
after_not [] bs is = absurd (true≢false is)
after_not (w ∷ ws) [] is = refl
after_not (w ∷ ws) (b ∷ bs) is = not_step (eqb b w) (begins ws bs) _ is (after_not ws bs)

-- what a line that is not blank says, by what stands behind each of the three words
by_words : (size free off : Option (List ℕ)) (line : List ℕ) → 0 < length line → after size_word line ≡ size → after free_word line ≡ free → after off_word line ≡ off → with_fields size_line size (with_fields free_line free (with_fields off_line off no_form)) ≡ taken_apart line
unfolding taken_apart
by_words size free off [] some is-size is-free is-off = absurd (omega arith)
by_words size free off (b ∷ bs) some is-size is-free is-off =
    λ i. with_fields size_line (sym is-size i) (with_fields free_line (sym is-free i) (with_fields off_line (sym is-off i) no_form))

pub size_apart : (line rest : List ℕ) → begins size_word line ≡ true → rest ≡ drop 5 line → size_line (up_to 32 rest) (behind 32 rest) ≡ taken_apart line
unfolding with_fields
size_apart line rest size cut =
    ap (λ r. size_line (up_to 32 r) (behind 32 r)) cut
    ∙ by_words (Some (drop 5 line)) _ _ line (begun 115 (drop 1 size_word) line size) (after_word size_word line size) refl refl

pub free_apart : (line rest : List ℕ) → begins free_word line ≡ true → rest ≡ drop 5 line → free_line (up_to 32 rest) (behind 32 rest) ≡ taken_apart line
unfolding with_fields
free_apart line rest free cut =
    let size = unlike 102 115 (drop 1 free_word) (drop 1 size_word) line (λ e. omega arith) free in
    ap (λ r. free_line (up_to 32 r) (behind 32 r)) cut
    ∙ by_words None (Some (drop 5 line)) _ line (begun 102 (drop 1 free_word) line free) (after_not size_word line size) (after_word free_word line free) refl

pub off_apart : (line rest : List ℕ) → begins off_word line ≡ true → rest ≡ drop 4 line → off_line (up_to 32 rest) (behind 32 rest) ≡ taken_apart line
unfolding with_fields
off_apart line rest off cut =
    let size = unlike 111 115 (drop 1 off_word) (drop 1 size_word) line (λ e. omega arith) off in
    let free = unlike 111 102 (drop 1 off_word) (drop 1 free_word) line (λ e. omega arith) off in
    ap (λ r. off_line (up_to 32 r) (behind 32 r)) cut
    ∙ by_words None None (Some (drop 4 line)) line (begun 111 (drop 1 off_word) line off) (after_not size_word line size) (after_not free_word line free) (after_word off_word line off)

pub none_apart : (line : List ℕ) → 0 < length line → begins size_word line ≡ false → begins free_word line ≡ false → begins off_word line ≡ false → no_form ≡ taken_apart line
unfolding with_fields
none_apart line some size free off =
    by_words None None None line some (after_not size_word line size) (after_not free_word line free) (after_not off_word line off)
