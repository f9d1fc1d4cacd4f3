-- Lists of crews: the crew at a number, the members that are held, crews with different members, and the first crew with a member and a slot.
-- Assumes nothing.
use Rattle.std.proofs.Common.{◌≡◌, ℕ, zero, suc, ◌<◌, true, false, ◌≢◌, ◌||◌, eqb, List, [], ◌∷◌, ◌++◌, length, get_or, map, cond, Bool, Some, Option, refl, ap, ◌∙◌, le_of_suc-le-suc, arith}
use Rattle.std.specs.List.{list_any, find}
use Rattle.std.specs.Option.{option_map, option_map_or}
use Rattle.std.proofs.lemmas.Bool.{both_ways, or_left, or_right, eq-eqb}
use Rattle.std.proofs.lemmas.List.{get_or_default}
use Rattle.std.proofs.lemmas.List.Quantifiers.{all_pairs_push}
use Rattle.tables.specs.Crews.{kept}
use Rattle.tables.specs.Firsts.{first}
use Rattle.tables.specs.Sides.{sides}
use Rattle.tables.specs.declared.crew.Crew.{Crew}
use Rattle.finders.specs.Found.{number, has_members, DifferentMembers, covers, covering}

-- ---- the crew at a number

pub number_members : (l : List (ℕ × ℕ)) (k : ℕ) → option_map_or (λ c. c.0) (number l k) 0 ≡ (get_or l k (0, 0)).0
number_members [] k = refl
number_members (c ∷ cs) zero = refl
number_members (c ∷ cs) (suc k) = number_members cs k

-- ---- the members that are held

pub has_members_at : (x : ℕ) (l : List (ℕ × ℕ)) (k : ℕ) → k < length l → (get_or l k (0, 0)).0 ≡ x → has_members x l ≡ true
has_members_at x [] k h e = absurd (omega arith)
has_members_at x (c ∷ cs) zero h e = or_left _ _ (eq-eqb c.0 x e)
has_members_at x (c ∷ cs) (suc k) h e = or_right (eqb c.0 x) _ (has_members_at x cs k (le_of_suc-le-suc h) e)

pub held_any : (x : ℕ) (cs : List Crew) → list_any (λ c. eqb c.members x) cs ≡ has_members x (map sides cs)
held_any x [] = refl
held_any x (c ∷ cs) = ap (λ b. eqb c.members x || b) (held_any x cs)

-- ---- crews with different members

pub different_none : DifferentMembers []
different_none i j d l m = absurd (omega arith)

-- a crew is added whose members no crew of the list has
pub different_push : (l : List (ℕ × ℕ)) (c : ℕ × ℕ) → DifferentMembers l → has_members c.0 l ≡ false → DifferentMembers (l ++ c ∷ [])
different_push l c different fresh =
    all_pairs_push (λ a b. a.0 ≢ b.0) l c different
    (λ k d within same. both_ways _ fresh (has_members_at c.0 l k within (ap (λ a. a.0) (get_or_default l k (0, 0) d within) ∙ same)))

-- ---- the first crew with a member and a slot

pub covering_find : (i j : ℕ) (cs : List Crew) → option_map sides (find (λ c. covers i j (sides c)) cs) ≡ covering i j (map sides cs)
unfolding covering kept
covering_find i j [] = refl
covering_find i j (c ∷ cs) = go (covers i j (sides c)) _ _ (covering_find i j cs)
  where
    go : (b : Bool) (o : Option Crew) (l : List (ℕ × ℕ)) → option_map sides o ≡ first l → option_map sides (cond b (Some c) o) ≡ first (cond b (sides c ∷ l) l)
    go true o l h = refl
    go false o l h = h
