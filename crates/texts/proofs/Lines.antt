-- The first line of a text and the lines behind it. Assumes nothing.
use Rattle.std.proofs.Common.{◌≡◌, ℕ, suc, ◌+◌, ◌-◌, ◌<◌, ◌≤◌, Bool, true, false, cond, eqb, List, [], ◌∷◌, length, refl, ap, ◌∙◌, arith}
use Rattle.texts.specs.Cards.{later}
use Rattle.texts.specs.Lines.{Line, line, begun, lines_from, lines}
use Rattle.texts.specs.Splits.{up_to, behind}

-- what is behind the first mark is shorter than all
shorter_step : (t : Bool) (bs rest : List ℕ) → length rest ≤ length bs → length (cond t bs rest) + 1 ≤ suc (length bs)
shorter_step true bs rest h = omega arith
shorter_step false bs rest h = omega arith

pub behind_shorter : (mark : ℕ) (bs : List ℕ) → length (behind mark bs) ≤ length bs - 1
unfolding behind
behind_shorter mark [] = omega arith
behind_shorter mark (b ∷ bs) = omega (arith, shorter_step (eqb b mark) bs (behind mark bs) (omega (arith, behind_shorter mark bs)))

-- the lines of what is left of a text of length n
abbrev pub lines_left : ℕ → List ℕ → List Line
lines_left n bs = lines_from (n - length bs) bs

-- the line that a text begins with, and those behind it
abbrev First : ℕ → List ℕ → Type 0
First n bs = lines_left n bs ≡ line (n - length bs) (up_to 10 bs) ∷ lines_left n (behind 10 bs)

first_step : (n b : ℕ) (bs : List ℕ) (t : Bool) → suc (length bs) ≤ n → (0 < length bs → First n bs) → cond t (line (n - suc (length bs)) [] ∷ lines_from (suc (n - suc (length bs))) bs) (begun (n - suc (length bs)) b (lines_from (suc (n - suc (length bs))) bs)) ≡ line (n - suc (length bs)) (cond t [] (b ∷ up_to 10 bs)) ∷ lines_left n (cond t bs (behind 10 bs))
unfolding lines_from begun up_to behind
first_step n b bs true fits more = ap (λ k. line (n - suc (length bs)) [] ∷ lines_from k bs) (omega arith)
first_step n b [] false fits more = refl
first_step n b (c ∷ bs) false fits more =
    ap (λ k. begun (n - suc (length (c ∷ bs))) b (lines_from k (c ∷ bs))) (omega arith)
    ∙ ap (begun (n - suc (length (c ∷ bs))) b) (more (omega arith))

pub first_line : (n : ℕ) (bs : List ℕ) → 0 < length bs → length bs ≤ n → First n bs
unfolding lines_from up_to behind
first_line n [] some fits = absurd (omega arith)
first_line n (b ∷ bs) some fits = first_step n b bs (eqb b 10) fits (λ more. first_line n bs more (omega arith))

pub lines_whole : (text : List ℕ) → lines text ≡ lines_left (length text) text
unfolding lines
lines_whole text = ap (λ k. lines_from k text) (omega arith)

pub later_lines : (text : List ℕ) → later (lines text) ≡ lines_left (length text) (behind 10 text)
unfolding lines lines_from behind
later_lines [] = refl
later_lines (b ∷ bs) = ap later (lines_whole (b ∷ bs) ∙ first_line (length (b ∷ bs)) (b ∷ bs) (omega arith) (omega arith))
