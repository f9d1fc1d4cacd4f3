-- The places of a found list as a list of crews: their number, each of them, none at the start and one more. Assumes nothing.
use Rattle.std.proofs.Common.{◌≡◌, ℕ, zero, suc, ◌+◌, ◌<◌, ◌≤◌, true, false, ltb, List, [], ◌∷◌, ◌++◌, map, length, get_or, take, flat_map, set, replicate, is_some, Some, None, Option, sym, refl, ap, ◌∙◌, ⊎_elim, arith, get_or-set_other, get_or-set_same}
use lib.Dec.{leb-suc-suc, leb-suc-zero, leb-zero}
use lib.ListN.{length-map}
use Rattle.std.specs.Option.{option_map, option_to_list}
use Rattle.std.proofs.lemmas.List.{length-take-le, take_more_set, map_push, get_or-map, get_or-take}
use Rattle.std.proofs.lemmas.Bool.{both_ways, cases_eq, lt-ltb}
use Rattle.std.proofs.lemmas.Bool.Decides.{nat_tests}
use Rattle.tables.specs.Sides.{sides}
use Rattle.tables.specs.declared.crew.Crew.{Crew}
use Rattle.finders.specs.Found.{number, has_members}
use Rattle.finders.specs.Places.{words_at, front_crews, Filled, Apart, Places}
use Rattle.finders.proofs.FoundLists.{has_members_at}

-- ---- one place

filled_words : (p : Option Crew) → is_some p ≡ true → option_map sides p ≡ Some (words_at p)
filled_words None h = absurd (both_ways false refl h)
filled_words (Some c) h = refl

free_words : (p : Option Crew) → is_some p ≡ false → option_map sides p ≡ None
free_words None h = refl
free_words (Some c) h = absurd (both_ways true h refl)

-- ---- the crews in the first places

pub front_length : (places : List (Option Crew)) (n : ℕ) → n ≤ length places → length (front_crews places n) ≡ n
unfolding front_crews
front_length places n h = length-map (take n places) words_at ∙ length-take-le n places h

pub front_number : (places : List (Option Crew)) (n k : ℕ) → Filled places n → option_map sides (get_or places k None) ≡ number (front_crews places n) k
unfolding front_crews
front_number [] zero k h = refl
front_number [] (suc n) k h = refl
front_number (p ∷ ps) zero k h = free_words (get_or (p ∷ ps) k None) (h k ∙ leb-suc-zero k)
front_number (p ∷ ps) (suc n) zero h = filled_words p (h 0 ∙ leb-suc-suc 0 n ∙ leb-zero n)
front_number (p ∷ ps) (suc n) (suc k) h = front_number ps n k (λ i. h (suc i) ∙ leb-suc-suc (suc i) n)

front_at : (places : List (Option Crew)) (n k : ℕ) → k < n → n ≤ length places → get_or (front_crews places n) k (0, 0) ≡ words_at (get_or places k None)
unfolding front_crews
front_at places n k l h =
    let e = length-take-le n places h in
    get_or-map words_at (take n places) k None (0, 0) (omega arith) ∙ ap words_at (get_or-take n places k None l)

-- the crews of the first places, one after another
pub front_listed : (places : List (Option Crew)) (n : ℕ) → Filled places n → map sides (flat_map option_to_list (take n places)) ≡ front_crews places n
unfolding front_crews
front_listed places zero h = refl
front_listed [] (suc n) h = refl
front_listed (None ∷ ps) (suc n) h = absurd (both_ways false refl (h 0 ∙ leb-suc-suc 0 n ∙ leb-zero n))
front_listed (Some c ∷ ps) (suc n) h = ap (λ l. sides c ∷ l) (front_listed ps n (λ i. h (suc i) ∙ leb-suc-suc (suc i) n))

-- ---- no crew

free_place : (n k : ℕ) → get_or {A = Option Crew} (replicate n None) k None ≡ None
free_place zero k = refl
free_place (suc n) zero = refl
free_place (suc n) (suc k) = free_place n k

pub filled_none : (n : ℕ) → Filled (replicate n None) 0
filled_none n k = ap is_some (free_place n k) ∙ sym (leb-suc-zero k)

-- ---- one more crew

module _ (places : List (Option Crew)) (n : ℕ) (crew : Crew) (within : n < length places) where
  pub front_more : front_crews (set places n (Some crew)) (n + 1) ≡ front_crews places n ++ sides crew ∷ []
  unfolding front_crews
  front_more = ap (map words_at) (take_more_set places n (Some crew) within) ∙ map_push words_at (take n places) (Some crew)

  pub filled_more : Filled places n → Filled (set places n (Some crew)) (n + 1)
  filled_more h k =
      ⊎_elim
      (λ e. ap (λ i. is_some (get_or (set places n (Some crew)) i None)) e ∙ ap is_some (get_or-set_same places n (Some crew) None within) ∙ sym (lt-ltb k (n + 1) (omega arith)))
      (λ e. ap is_some (get_or-set_other places n k (Some crew) None e) ∙ h k ∙ same k e)
      (cases_eq k n)
    where
      same : (k : ℕ) → (k ≡ n → ⊥) → ltb k n ≡ ltb k (n + 1)
      same k e = grind (arith, nat_tests)

  pub apart_more : Apart places n → has_members crew.members (front_crews places n) ≡ false → Apart (set places n (Some crew)) (n + 1)
  apart_more h fresh i j l m e =
      let first = ap (λ p. (words_at p).0) (get_or-set_other places n i (Some crew) None (λ s. omega arith)) in
      ⊎_elim
      (λ s.
      both_ways _ fresh
      (has_members_at crew.members (front_crews places n) i (let k = front_length places n (omega arith) in omega arith)
      (ap (λ c. c.0) (front_at places n i (omega arith) (omega arith)) ∙ sym first ∙ e ∙ ap (λ k. (words_at (get_or (set places n (Some crew)) k None)).0) s
      ∙ ap (λ p. (words_at p).0) (get_or-set_same places n (Some crew) None within))))
      (λ s. h i j l (omega arith) (sym first ∙ e ∙ ap (λ p. (words_at p).0) (get_or-set_other places n j (Some crew) None s)))
      (cases_eq j n)

-- ---- the places of a found list

module _ (places : List (Option Crew)) (n : ℕ) (kept : Places places n) where
  pub used_length : length (front_crews places n) ≡ n
  used_length = let long = kept.places_count in let fits = kept.fits in front_length places n (omega arith)

  -- where fewer than 512 crews are found, there is a free place
  pub place_left : (l : List (ℕ × ℕ)) → front_crews places n ≡ l → length l < 512 → n < length places
  place_left l e room = let long = kept.places_count in let used = used_length in let same = ap length e in omega arith
