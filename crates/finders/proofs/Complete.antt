-- A finished finder has found every crew, and no finder finds more crews than there are. Assumes nothing.
use Rattle.std.proofs.Common.{◌≡◌, ℕ, suc, ◌+◌, ◌*◌, ◌/◌, ◌%◌, ◌^◌, ◌<◌, ◌≤◌, true, false, List, [], ◌∷◌, ◌++◌, length, get_or, Some, sym, ap, ◌∙◌, subst, ap₂, mod-eq_of_lt, le_antisymm, mul-le-mul_left, zero-add, mul-suc, arith}
use native.Mathlib.Nat.{add-mul-div_left, add-mul-mod_self_left, div-eq_of_lt}
use lib.Bits.{bit_and}
use lib.ListN.{length-map}
use Rattle.std.specs.List.{ContainsAt, AllByRecursion}
use Rattle.std.proofs.ByRecursion.{all-has, All-map, All-weaker, All-get_or, has_get_or}
use Rattle.std.proofs.lemmas.List.{get_or-take, length_push}
use Rattle.words.proofs.Listed.{within_right, within_some, and_below}
use Rattle.words.proofs.WordOrder.{before_irreflexive}
use Rattle.words.specs.Order.{before}
use Rattle.tables.specs.Crews.{is_crew, manned, crew_words, crews}
use Rattle.tables.specs.Grid.{Grid, Proper, member_word, common_slots}
use Rattle.tables.proofs.Crews.{crew_is_manned, manned_is_crew, crews_same, crew_words_increasing, has_crew_words, crew_words_only}
use Rattle.tables.proofs.Intersections.{crew_from_slots}
use Rattle.tables.proofs.Listed.{increasing_once}
use Rattle.finders.specs.Finder.{Finding, starters, members_at, met, finished, fresh, stepped}
use Rattle.finders.proofs.MemberWords.{words, Once, at_words, has_take, once_short}
use Rattle.finders.proofs.Rule.{finished_past}
use Rattle.finders.proofs.Sound.{Sound, starters_length, found_manned, added_sound}
use Rattle.finders.proofs.Starting.{slots_in_words}

-- pair number q + s * p is crew number p with starter number q
pair_met : (l : List (ℕ × ℕ)) (s p q : ℕ) → q < s → met l s (q + s * p) ≡ bit_and (members_at l p) (members_at l q)
unfolding met
pair_met l s p q h =
    let some : 0 < s = omega arith in
    let high : (q + s * p) / s ≡ p = add-mul-div_left q p {y = s} some ∙ ap (λ n. n + p) (div-eq_of_lt h) ∙ zero-add p in
    let low : (q + s * p) % s ≡ q = add-mul-mod_self_left q s p ∙ mod-eq_of_lt h in
    ap₂ (λ a b. bit_and (members_at l a) (members_at l b)) high low

pair_within : (s p q n : ℕ) → q < s → p < n → q + s * p < s * n
pair_within s p q n hq hp = let e = mul-suc s p in let l = mul-le-mul_left s hp in omega arith

-- the second word of an intersection that is not empty is not empty
second_some : (k a b : ℕ) → a < 2 ^ k → 0 < bit_and a b → 0 < b
second_some k a b h some = within_some k (bit_and a b) b (and_below k a b h) (within_right a b) some

module _ (g : Grid) (proper : Proper g) (limit : ℕ) (st : Finding) (sound : Sound g limit st) where
  -- ---- every crew is found

  module _ (over : finished g st ≡ true) where
    past : g.slots ≤ st.steps
    past = let l = finished_past g st over in omega arith

    slot_found : (j : ℕ) → j < g.slots → 0 < member_word g j → ContainsAt (words st.found) (member_word g j)
    slot_found j l some = has_take (starters g) (words st.found) (member_word g j) (subst (λ m. ContainsAt m (member_word g j)) (sym (sound.late past)) (slots_in_words g g.slots j l some))

    -- what a found crew and a slot have in common is found
    more_found : (a j : ℕ) → j < g.slots → ContainsAt (words st.found) a → 0 < bit_and a (member_word g j) → ContainsAt (words st.found) (bit_and a (member_word g j))
    more_found a j l h some =
        let F = st.found in
        let s = starters g in
        let p = h.0 in
        let long = length-map F (λ c. c.0) in
        let lp : p < length F = let b = h.1 in omega arith in
        let at_p : members_at F p ≡ a = sym (at_words F p) ∙ h.2 0 in
        let below = subst (λ x. x < 2 ^ g.members) at_p (found_manned g proper limit st sound p lp).members_only in
        let t = slots_in_words g g.slots j l (second_some g.members a (member_word g j) below some) in
        let q = t.0 in
        let lq : q < s = let b = t.1 in let n = starters_length g in omega arith in
        let at-q : members_at F q ≡ member_word g j = sym (at_words F q) ∙ sym (get_or-take s (words F) q 0 lq) ∙ ap (λ m. get_or m q 0) (sound.late past) ∙ t.2 0 in
        let same : met F s (q + s * p) ≡ bit_and a (member_word g j) = pair_met F s p q lq ∙ ap₂ bit_and at_p at-q in
        let inside = pair_within s p q (length F) lq lp in
        let all = finished_past g st over in
        subst (ContainsAt (words F)) same (sound.paired (q + s * p) (omega arith) (subst (λ w. 0 < w) (sym same) some))

    pub words_complete : (x y : ℕ) → is_crew g x y ≡ true → ContainsAt (words st.found) x
    words_complete x y crew = crew_from_slots g proper (ContainsAt (words st.found)) slot_found more_found x y crew

    pub found_complete : (x y : ℕ) → is_crew g x y ≡ true → ContainsAt st.found (x, y)
    found_complete x y crew =
        let F = st.found in
        let h = words_complete x y crew in
        let long = length-map F (λ c. c.0) in
        let within : h.0 < length F = let b = h.1 in omega arith in
        let c = get_or F h.0 (0, 0) in
        let members : c.0 ≡ x = sym (at_words F h.0) ∙ h.2 0 in
        let it = All-get_or (λ c. is_crew g c.0 c.1 ≡ true) F h.0 (0, 0) within sound.only_crews in
        let slots : c.1 ≡ y = crews_same g x c.1 y (subst (λ z. is_crew g z c.1 ≡ true) members it) crew in
        subst (ContainsAt F) (ap₂ (λ a b. (a, b)) members slots) (has_get_or F h.0 (0, 0) within)

  -- ---- how many crews there are

  crews_length : length (crews g) ≡ length (crew_words g)
  unfolding crews
  crews_length = length-map (crew_words g) (λ x. (x, common_slots g x))

  found_words_manned : AllByRecursion (λ x. manned g x ≡ true) (words st.found)
  found_words_manned =
      All-map (λ x. manned g x ≡ true) (λ c. c.0) st.found
      (All-weaker (λ c. is_crew g c.0 c.1 ≡ true) (λ c. manned g c.0 ≡ true) (λ c h. crew_is_manned g c.0 c.1 h) st.found sound.only_crews)

  -- no more crews are found than there are
  pub found_short : length st.found ≤ length (crews g)
  found_short =
      let n = once_short (words st.found) (crew_words g) sound.once (λ x h. has_crew_words g x (all-has (λ x. manned g x ≡ true) (words st.found) x found_words_manned h)) in
      let long = length-map st.found (λ c. c.0) in
      let e = crews_length in
      omega arith

  crew_words_once : Once (crew_words g)
  crew_words_once i j hi hj e = increasing_once before before_irreflexive (crew_words g) (crew_words_increasing g proper) i j 0 hi hj e

  -- a finished finder has found as many as there are
  pub found_all_length : finished g st ≡ true → length st.found ≡ length (crews g)
  found_all_length over =
      let n = once_short (crew_words g) (words st.found) crew_words_once (λ x h. words_complete over x (common_slots g x) (manned_is_crew g x (all-has (λ x. manned g x ≡ true) (crew_words g) x (crew_words_only g) h))) in
      let long = length-map st.found (λ c. c.0) in
      let e = crews_length in
      le_antisymm found_short (omega arith)

-- a higher limit changes nothing of what a state keeps to
higher : (g : Grid) (limit : ℕ) (st : Finding) → Sound g limit st → Sound g (suc limit) st
higher g limit st sound = record {
  only_crews = sound.only_crews;
  once = sound.once;
  within_limit = let l = sound.within_limit in omega arith;
  within_pairs = sound.within_pairs;
  early = sound.early;
  late = sound.late;
  paired = sound.paired;
}

-- where one more crew is to be added, there are more crews than were found
pub fresh_more : (g : Grid) → Proper g → (limit : ℕ) (st : Finding) → Sound g limit st → finished g st ≡ false → (c : ℕ × ℕ) → fresh g st ≡ Some c → length st.found < length (crews g)
fresh_more g proper limit st sound unfinished c some =
    let l = sound.within_limit in
    let s = added_sound g proper (suc limit) st (higher g limit st sound) unfinished c some (omega arith) in
    let n = found_short g proper (suc limit) (stepped st (st.found ++ c ∷ [])) s in
    let e = length_push st.found c in
    omega arith
