-- The crews from a word on: which they are, and the first of them with those after it. Assumes nothing.
use Rattle.std.proofs.Common.{◌≡◌, ℕ, ◌-◌, ◌^◌, ◌<◌, true, false, not, List, [], ◌∷◌, sym, ◌∙◌, subst, ap₂, ⊎_elim, lt_of_lt_of_le, pow_mono}
use Rattle.std.specs.List.{ContainsAt}
use Rattle.std.proofs.ByRecursion.{all-has, all_has_itself, All-weaker}
use Rattle.std.proofs.lemmas.Bool.{both_ways, cases_Bool, cases_eq, not-true, not_from_false}
use Rattle.words.specs.Order.{before, next_word}
use Rattle.words.proofs.WordOrder.{earlier_all, before_irreflexive, before_asym, before_trans, before_total, next_after}
use Rattle.tables.specs.Grid.{Grid, Proper}
use Rattle.tables.specs.Crews.{is_crew, crews, ahead}
use Rattle.tables.specs.Walk.{Increasing, crew_before, FirstFrom}
use Rattle.tables.proofs.Listed.{has_none, has_first, has_later, has_cases, none_stands, has_kept, kept_has, kept_all, increasing_kept, increasing_same}
use Rattle.tables.proofs.Crews.{crew_manned, crews_same, crews_increasing, crews_have, crews_listed}

-- a crew's member word is below 2 ^ 64
pub crew_below : (g : Grid) → Proper g → (x y : ℕ) → is_crew g x y ≡ true → x < 2 ^ 64
crew_below g p x y h = lt_of_lt_of_le (crew_manned g x y h).0.members_only (pow_mono p.members_fit)

pub has_ahead : (g : Grid) (p x y : ℕ) → is_crew g x y ≡ true → before x p ≡ false → ContainsAt (ahead g p) (x, y)
unfolding ahead
has_ahead g p x y h e = has_kept (λ c. not (before c.0 p)) (x, y) (crews g) (crews_have g x y h) (not_from_false (before x p) e)

pub ahead_has : (g : Grid) → Proper g → (p x y : ℕ) → ContainsAt (ahead g p) (x, y) → (is_crew g x y ≡ true) × (before x p ≡ false)
unfolding ahead
ahead_has g proper p x y h =
    let both = kept_has (λ c. not (before c.0 p)) (x, y) (crews g) h in
    ((crews_listed g proper).only_crews x y both.0, not-true (before x p) both.1)

pub ahead_increasing : (g : Grid) → Proper g → (p : ℕ) → Increasing crew_before (ahead g p)
unfolding ahead
ahead_increasing g proper p = increasing_kept crew_before (λ c. not (before c.0 p)) (crews g) (crews_increasing g proper)

-- nothing is before the word of all ones, so all crews are from it on
pub ahead_all : (g : Grid) → ahead g (2 ^ 64 - 1) ≡ crews g
unfolding ahead before
ahead_all g = kept_all (λ c. not (before c.0 (2 ^ 64 - 1))) (crews g) (λ c. not_from_false (before c.0 (2 ^ 64 - 1)) (earlier_all 64 c.0))

-- ---- none from a word on

pub none_ahead : (g : Grid) → Proper g → (p : ℕ) → ((x y : ℕ) → is_crew g x y ≡ true → before x p ≡ false → ⊥) → ahead g p ≡ []
none_ahead g proper p none = none_stands (ahead g p) (λ c h. let both = ahead_has g proper p c.0 c.1 h in none c.0 c.1 both.0 both.1)

pub ahead_none : (g : Grid) (p : ℕ) → ahead g p ≡ [] → (x y : ℕ) → is_crew g x y ≡ true → before x p ≡ false → ⊥
ahead_none g p e x y h b = has_none (x, y) (subst (λ l. ContainsAt l (x, y)) e (has_ahead g p x y h b))

-- ---- the first from a word on

-- the crews after x, and x itself, where x is the first crew from p on
pub first_ahead :
    (g : Grid) → Proper g → (p x y : ℕ) → is_crew g x y ≡ true → before x p ≡ false
    → ((x' y' : ℕ) → is_crew g x' y' ≡ true → before x' p ≡ false → before x' x ≡ false)
    → ahead g p ≡ (x, y) ∷ ahead g (next_word x)
first_ahead g proper p x y h e first =
    increasing_same crew_before (λ c. before_irreflexive c.0) (λ c d. before_asym c.0 d.0) (ahead g p) ((x, y) ∷ ahead g (next_word x))
    (ahead_increasing g proper p)
    (All-weaker (ContainsAt (ahead g (next_word x))) (λ c. before x c.0 ≡ true) (λ c k. after c k) (ahead g (next_word x)) (all_has_itself (ahead g (next_word x))), ahead_increasing g proper (next_word x))
    there back
  where
    small : x < 2 ^ 64
    small = crew_below g proper x y h

    next : (z : ℕ) → not (before z (next_word x)) ≡ before x z
    next z = next_after x z (crew_manned g x y h).0.some_member small

    after : (c : ℕ × ℕ) → ContainsAt (ahead g (next_word x)) c → before x c.0 ≡ true
    after c k = sym (next c.0) ∙ not_from_false (before c.0 (next_word x)) (ahead_has g proper (next_word x) c.0 c.1 k).1

    there : (c : ℕ × ℕ) → ContainsAt (ahead g p) c → ContainsAt ((x, y) ∷ ahead g (next_word x)) c
    there c k =
        let both = ahead_has g proper p c.0 c.1 k in
        ⊎_elim (λ s. subst (λ d. ContainsAt ((x, y) ∷ ahead g (next_word x)) d) (ap₂ (λ a b. (a, b)) s (crews_same g c.0 y c.1 (subst (λ z. is_crew g z y ≡ true) s h) both.0)) (has_first (x, y) (ahead g (next_word x))))
        (λ s. has_later (x, y) c (ahead g (next_word x)) (has_ahead g (next_word x) c.0 c.1 both.0 (not-true (before c.0 (next_word x)) (next c.0 ∙ before_total c.0 x (crew_below g proper c.0 c.1 both.0) small (λ t. s (sym t)) (first c.0 c.1 both.0 both.1)))))
        (cases_eq x c.0)

    back : (c : ℕ × ℕ) → ContainsAt ((x, y) ∷ ahead g (next_word x)) c → ContainsAt (ahead g p) c
    back c k =
        ⊎_elim (λ s. subst (ContainsAt (ahead g p)) s (has_ahead g p x y h e))
        (λ t. has_ahead g p c.0 c.1 (ahead_has g proper (next_word x) c.0 c.1 t).0
        (⊎_elim (λ b. absurd (both_ways (before x p) e (before_trans x c.0 p (after c t) b))) (λ b. b) (cases_Bool (before c.0 p))))
        (has_cases (x, y) c (ahead g (next_word x)) k)

-- the first line of the crews from p on is the first crew from p on
pub ahead_first : (g : Grid) → Proper g → (p : ℕ) (c : ℕ × ℕ) (rest : List (ℕ × ℕ)) → ahead g p ≡ c ∷ rest → FirstFrom g p c.0 c.1
ahead_first g proper p c rest e =
    let it = ahead_has g proper p c.0 c.1 (subst (λ l. ContainsAt l c) (sym e) (has_first c rest)) in
    record {
      crew = it.0;
      from = it.1;
      first = λ x y h b. ⊎_elim (λ s. subst (λ (d : ℕ × ℕ). before d.0 c.0 ≡ false) s (before_irreflexive c.0)) (λ t. before_asym c.0 x (all-has (λ d. before c.0 d.0 ≡ true) rest (x, y) (subst (Increasing crew_before) e (ahead_increasing g proper p)).0 t)) (has_cases c (x, y) rest (subst (λ l. ContainsAt l (x, y)) e (has_ahead g p x y h b)));
    }

-- and what follows it are the crews from the next word on
pub ahead_rest : (g : Grid) → Proper g → (p : ℕ) (c : ℕ × ℕ) (rest : List (ℕ × ℕ)) → ahead g p ≡ c ∷ rest → rest ≡ ahead g (next_word c.0)
ahead_rest g proper p c rest e =
    let f = ahead_first g proper p c rest e in
    let d = first_ahead g proper p c.0 c.1 f.crew f.from f.first in
    cc
