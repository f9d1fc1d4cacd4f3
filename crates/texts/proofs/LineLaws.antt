-- What the lines of a text keep to. Assumes nothing.
use Rattle.std.proofs.Common.{◌≡◌, ℕ, suc, Bool, true, false, cond, eqb, List, [], ◌∷◌, sym, refl, ap, ◌∙◌, subst, arith}
use Rattle.std.specs.List.{flat_map, AllByRecursion}
use Rattle.std.proofs.lemmas.Bool.{eqb-true, eqb-false}
use Rattle.texts.specs.Lines.{Line, line, begun, lines_from, lines, ended_line, finished, Follow, LineLaws}

-- there is a line
abbrev SomeLine : List Line → Type 0
SomeLine [] = ⊥
SomeLine (l ∷ ls) = Unit {0}

some_begun : (k b : ℕ) (ls : List Line) → SomeLine (begun k b ls)
unfolding begun
some_begun k b [] = tt
some_begun k b (l ∷ ls) = tt

some_either : (t : Bool) (l : Line) (ls ms : List Line) → SomeLine ms → SomeLine (cond t (l ∷ ls) ms)
some_either true l ls ms some = tt
some_either false l ls ms some = some

some_line : (k b : ℕ) (bs : List ℕ) → SomeLine (lines_from k (b ∷ bs))
unfolding lines_from
some_line k b bs = some_either (eqb b 10) _ _ _ (some_begun k b (lines_from (suc k) bs))

whole_begun : (k b : ℕ) (ls : List Line) → SomeLine ls → flat_map ended_line (begun k b ls) ≡ b ∷ flat_map ended_line ls
unfolding begun
whole_begun k b [] some = absurd some
whole_begun k b (l ∷ ls) some = refl

whole_step : (k b : ℕ) (bs : List ℕ) (t : Bool) → eqb b 10 ≡ t → flat_map ended_line (lines_from (suc k) bs) ≡ finished bs → flat_map ended_line (cond t (line k [] ∷ lines_from (suc k) bs) (begun k b (lines_from (suc k) bs))) ≡ finished (b ∷ bs)
unfolding lines_from begun
whole_step k b [] true is rest = sym (ap (λ u. cond u (b ∷ []) (b ∷ 10 ∷ [])) is ∙ ap (λ x. x ∷ []) (eqb-true b 10 is))
whole_step k b [] false is rest = sym (ap (λ u. cond u (b ∷ []) (b ∷ 10 ∷ [])) is)
whole_step k b (c ∷ bs) true is rest = ap (λ l. 10 ∷ l) rest ∙ ap (λ x. x ∷ finished (c ∷ bs)) (sym (eqb-true b 10 is))
whole_step k b (c ∷ bs) false is rest =
    whole_begun k b (lines_from (suc k) (c ∷ bs)) (some_line (suc k) c bs) ∙ ap (λ l. b ∷ l) rest

whole_from : (k : ℕ) (bs : List ℕ) → flat_map ended_line (lines_from k bs) ≡ finished bs
unfolding lines_from
whole_from k [] = refl
whole_from k (b ∷ bs) = whole_step k b bs (eqb b 10) refl (whole_from (suc k) bs)

-- no byte of the line is byte 10
abbrev Unbroken : Line → Type 0
Unbroken l = AllByRecursion (λ b. b ≡ 10 → ⊥) l.bytes

unbroken_step : (k b : ℕ) (ls : List Line) (t : Bool) → eqb b 10 ≡ t → AllByRecursion Unbroken ls → AllByRecursion Unbroken (cond t (line k [] ∷ ls) (begun k b ls))
unfolding begun
unbroken_step k b ls true is rest = (tt, rest)
unbroken_step k b [] false is rest = ((eqb-false b 10 is, tt), tt)
unbroken_step k b (l ∷ ls) false is rest = ((eqb-false b 10 is, rest.0), rest.1)

unbroken_from : (k : ℕ) (bs : List ℕ) → AllByRecursion Unbroken (lines_from k bs)
unfolding lines_from
unbroken_from k [] = tt
unbroken_from k (b ∷ bs) = unbroken_step k b (lines_from (suc k) bs) (eqb b 10) refl (unbroken_from (suc k) bs)

follow_step : (k b : ℕ) (ls : List Line) (t : Bool) → Follow (suc k) ls → Follow k (cond t (line k [] ∷ ls) (begun k b ls))
unfolding begun
follow_step k b ls true rest = (refl, subst (λ n. Follow n ls) (omega arith) rest)
follow_step k b [] false rest = (refl, tt)
follow_step k b (l ∷ ls) false rest = (refl, subst (λ n. Follow n ls) (omega arith) rest.1)

follow_from : (k : ℕ) (bs : List ℕ) → Follow k (lines_from k bs)
unfolding lines_from
follow_from k [] = tt
follow_from k (b ∷ bs) = follow_step k b (lines_from (suc k) bs) (eqb b 10) (follow_from (suc k) bs)

pub line_laws : LineLaws
unfolding lines
line_laws = record { whole = whole_from 0; unbroken = unbroken_from 0; places = follow_from 0 }
