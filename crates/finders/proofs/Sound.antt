-- What every state that steps reach keeps to: crews only, each once, the starters first, and every pair that was taken met. Assumes nothing.
use Rattle.std.proofs.Common.{◌≡◌, ℕ, zero, suc, ◌+◌, ◌-◌, ◌*◌, ◌/◌, ◌%◌, ◌<◌, ◌≤◌, true, false, List, [], ◌∷◌, ◌++◌, length, take, Some, None, Option, sym, refl, ap, ◌∙◌, subst, ap₂, ⊎_elim, mod-lt, mul_comm, div-lt_iff_lt-mul, mul-suc, add-one, arith}
use lib.Bits.{bit_and}
use lib.ListN.{length-map}
use Rattle.std.specs.List.{ContainsAt, AllByRecursion}
use Rattle.std.proofs.ByRecursion.{All-get_or, All-push, has_append_left, has_push}
use Rattle.std.proofs.lemmas.List.{length-take, length_push, take_all, take-append-le, get_or_append_left, map_push}
use Rattle.std.proofs.lemmas.Bool.{cases_Bool, cases_eq, cases_lt, both_ways}
use Rattle.tables.specs.Crews.{is_crew}
use Rattle.tables.specs.Grid.{Grid, Proper, member_word, common_slots}
use Rattle.tables.proofs.Closure.{common_is_shared}
use Rattle.tables.proofs.Crews.{Manned, crew_manned, manned_crew}
use Rattle.tables.proofs.Intersections.{slot_manned, both_manned}
use Rattle.tables.proofs.Sides.{crew_of_made}
use Rattle.finders.specs.Finder.{Finding, beginning, starter_words, starters, members_at, met, wanted, finished, fresh, stepped, after_step, reached}
use Rattle.finders.specs.Found.{has_members}
use Rattle.finders.proofs.MemberWords.{words, Once, held_tells, once_none, once_push}
use Rattle.finders.proofs.Rule.{factor_some, unfinished_below, wanted_slot, wanted_pair, fresh_new, fresh_some, done_after, idle_after, full_after, added_after}
use Rattle.finders.proofs.Starting.{starts_tells, starts_none, words_next, words_same, words_from_slots, slots_in_words}

pub record Sound (g : Grid) (limit : ℕ) (st : Finding) : Type 0 where
  pub only_crews : AllByRecursion (λ c. is_crew g c.0 c.1 ≡ true) st.found
  pub once : Once (words st.found)
  pub within_limit : length st.found ≤ limit
  pub within_pairs : st.steps ≤ g.slots + starters g * length st.found
  -- while slots are taken the found crews are the starters so far
  pub early : st.steps ≤ g.slots → words st.found ≡ starter_words g st.steps
  -- and after the last slot they begin with the starters
  pub late : g.slots ≤ st.steps → take (starters g) (words st.found) ≡ starter_words g g.slots
  -- what a taken pair has in common is found
  pub paired : (k : ℕ) → k < st.steps - g.slots → 0 < met st.found (starters g) k → ContainsAt (words st.found) (met st.found (starters g) k)

pub starters_length : (g : Grid) → length (starter_words g g.slots) ≡ starters g
unfolding starters
starters_length g = refl

-- after the last slot, words that are the starters begin with them
all_starters : (g : Grid) (l : List ℕ) → l ≡ starter_words g g.slots → take (starters g) l ≡ starter_words g g.slots
all_starters g l e = let n = starters_length g in let m = ap length e in take_all (starters g) l (omega arith) ∙ e

met_push : (l : List (ℕ × ℕ)) (c : ℕ × ℕ) (s k : ℕ) → k / s < length l → k % s < length l → met (l ++ c ∷ []) s k ≡ met l s k
unfolding met
met_push l c s k high low =
    ap₂ (λ a b. bit_and a.0 b.0) (get_or_append_left l (c ∷ []) (0, 0) (k / s) high) (get_or_append_left l (c ∷ []) (0, 0) (k % s) low)

pub beginning_sound : (g : Grid) (limit : ℕ) → Sound g limit beginning
unfolding starter_words
beginning_sound g limit = record {
  only_crews = tt;
  once = once_none;
  within_limit = omega arith;
  within_pairs = omega arith;
  early = λ _. refl;
  late = λ past. all_starters g [] (ap (starter_words g) (none past));
  paired = λ k l. absurd (omega arith);
}
  where
    none : g.slots ≤ 0 → 0 ≡ g.slots
    none past = omega arith

module _ (g : Grid) (proper : Proper g) (limit : ℕ) (st : Finding) (sound : Sound g limit st) where
  -- ---- the crews that a pair names

  pub found_manned : (i : ℕ) → i < length st.found → Manned g (members_at st.found i)
  found_manned i l = (crew_manned g _ _ (All-get_or (λ c. is_crew g c.0 c.1 ≡ true) st.found i (0, 0) l sound.only_crews)).0

  pub starters_found : g.slots ≤ st.steps → starters g ≤ length st.found
  starters_found past =
      let e = ap length (sound.late past) in
      let n = starters_length g in
      let m = length-take (starters g) (words st.found) in
      let w = length-map st.found (λ c. c.0) in
      omega arith

  module _ (past : g.slots ≤ st.steps) (k : ℕ) (within : k < starters g * length st.found) where
    pair_starter : 0 < starters g
    pair_starter = factor_some (starters g) (length st.found) k within

    pair_crew : k / starters g < length st.found
    pair_crew = (div-lt_iff_lt-mul {k = starters g} {x = k} {y = length st.found} pair_starter).1 (let e = mul_comm (starters g) (length st.found) in omega arith)

    pair_second : k % starters g < length st.found
    pair_second = let l = mod-lt k pair_starter in let m = starters_found past in omega arith

    met_manned : 0 < met st.found (starters g) k → Manned g (met st.found (starters g) k)
    unfolding met
    met_manned some = both_manned g proper _ _ (found_manned (k / starters g) pair_crew) (found_manned (k % starters g) pair_second) some

  -- ---- the wanted members

  module _ (unfinished : finished g st ≡ false) where
    pub this_pair : g.slots ≤ st.steps → st.steps - g.slots < starters g * length st.found
    this_pair past = let l = unfinished_below g st unfinished in omega arith

    pub wanted_manned : 0 < wanted g st → Manned g (wanted g st)
    wanted_manned some =
        ⊎_elim
        (λ l. let e = wanted_slot g st l in subst (Manned g) (sym e) (slot_manned g proper st.steps l (subst (λ w. 0 < w) e some)))
        (λ past. let e = wanted_pair g st past in subst (Manned g) (sym e) (met_manned past (st.steps - g.slots) (this_pair past) (subst (λ w. 0 < w) e some)))
        (cases_lt st.steps g.slots)

    -- nothing is added where no members are wanted, or a found crew has them
    pub fresh_none : fresh g st ≡ None → 0 < wanted g st → ContainsAt (words st.found) (wanted g st)
    fresh_none none some =
        ⊎_elim
        (λ held. (held_tells (wanted g st) st.found).0 held)
        (λ free.
        let m = wanted_manned some in
        let shared = common_is_shared g (wanted g st) some m.members_only in
        let slots = subst (λ y. 0 < y) (sym shared) m.some_slot in
        absurd (crew_of_made (wanted g st) (common_slots g (wanted g st)) some slots (sym (fresh_new g st free) ∙ none)))
        (cases_Bool (has_members (wanted g st) st.found))

    -- what is added is a crew
    pub fresh_crew : (c : ℕ × ℕ) → fresh g st ≡ Some c → is_crew g c.0 c.1 ≡ true
    fresh_crew c e =
        let adds = fresh_some g st c e in
        let m = wanted_manned adds.some_member in
        let shared = common_is_shared g (wanted g st) adds.some_member m.members_only in
        subst (λ d. is_crew g d.0 d.1 ≡ true) (sym adds.crew) (subst (λ y. is_crew g (wanted g st) y ≡ true) (sym shared) (manned_crew g (wanted g st) m))

    fresh_unheld : (c : ℕ × ℕ) → fresh g st ≡ Some c → ContainsAt (words st.found) c.0 → ⊥
    fresh_unheld c e h =
        let adds = fresh_some g st c e in
        both_ways _ adds.unheld ((held_tells (wanted g st) st.found).1 (subst (λ d. ContainsAt (words st.found) d.0) adds.crew h))

    -- ---- one step while slots are taken

    -- a slot that adds nothing starts no word
    slot_idle : st.steps < g.slots → fresh g st ≡ None → words st.found ≡ starter_words g (st.steps + 1)
    slot_idle l none =
        let t = st.steps in
        let e = wanted_slot g st l in
        let sofar = sound.early (omega arith) in
        sofar ∙ sym (ap (starter_words g) (add-one t) ∙ words_same g t (starts_none g t (λ f.
        let r = words_from_slots g t (member_word g t) (subst (λ m. ContainsAt m (member_word g t)) sofar (subst (ContainsAt (words st.found)) e (fresh_none none (subst (λ w. 0 < w) (sym e) f.0)))) in
        f.1 r.0 r.1 r.2)))

    -- a slot that adds a crew starts its word
    slot_adds : st.steps < g.slots → (c : ℕ × ℕ) → fresh g st ≡ Some c → words (st.found ++ c ∷ []) ≡ starter_words g (st.steps + 1)
    slot_adds l c some =
        let t = st.steps in
        let adds = fresh_some g st c some in
        let e = wanted_slot g st l in
        let sofar = sound.early (omega arith) in
        let word : c.0 ≡ member_word g t = ap (λ d. d.0) adds.crew ∙ e in
        let first = (starts_tells g t).1 (
          subst (λ w. 0 < w) e adds.some_member,
          λ k lk same.
              fresh_unheld c some (subst (ContainsAt (words st.found)) (same ∙ sym word) (subst (λ m. ContainsAt m (member_word g k)) (sym sofar) (slots_in_words g t k lk (subst (λ w. 0 < w) (sym (same ∙ sym e)) adds.some_member)))),
        ) in
        map_push (λ d. d.0) st.found c ∙ ap₂ (λ m w. m ++ w ∷ []) sofar word ∙ sym (ap (starter_words g) (add-one t) ∙ words_next g t first)

    -- ---- one step keeps to all

    last_slot : st.steps < g.slots → g.slots ≤ st.steps + 1 → st.steps + 1 ≡ g.slots
    last_slot l past = omega arith

    idle_sound : fresh g st ≡ None → Sound g limit (stepped st st.found)
    idle_sound none = record {
      only_crews = sound.only_crews;
      once = sound.once;
      within_limit = sound.within_limit;
      within_pairs = let l = unfinished_below g st unfinished in omega arith;
      early = λ before. slot_idle (omega arith) none;
      late = λ past. ⊎_elim (λ l. all_starters g (words st.found) (slot_idle l none ∙ ap (starter_words g) (last_slot l past))) sound.late (cases_lt st.steps g.slots);
      paired = λ k l some. ⊎_elim (λ e. this k l e some) (λ other. sound.paired k (omega arith) some) (cases_eq k (st.steps - g.slots));
    }
      where
        this : (k : ℕ) → k < st.steps + 1 - g.slots → k ≡ st.steps - g.slots → 0 < met st.found (starters g) k → ContainsAt (words st.found) (met st.found (starters g) k)
        this k l e some =
            let past : g.slots ≤ st.steps = omega arith in
            let same : wanted g st ≡ met st.found (starters g) k = wanted_pair g st past ∙ ap (met st.found (starters g)) (sym e) in
            subst (ContainsAt (words st.found)) same (fresh_none none (subst (λ w. 0 < w) (sym same) some))

    pub added_sound : (c : ℕ × ℕ) → fresh g st ≡ Some c → length st.found < limit → Sound g limit (stepped st (st.found ++ c ∷ []))
    added_sound c some room = record {
      only_crews = All-push (λ c. is_crew g c.0 c.1 ≡ true) st.found c sound.only_crews (fresh_crew c some);
      once = subst Once (sym pushed) (once_push c.0 (words st.found) sound.once (fresh_unheld c some));
      within_limit = let e = length_push st.found c in omega arith;
      within_pairs = more;
      early = λ before. slot_adds (omega arith) c some;
      late = λ past. ⊎_elim (λ l. all_starters g (words (st.found ++ c ∷ [])) (slot_adds l c some ∙ ap (starter_words g) (last_slot l past))) front (cases_lt st.steps g.slots);
      paired = λ k l Met-some. ⊎_elim (λ e. this k l e) (λ other. old k (omega arith) Met-some) (cases_eq k (st.steps - g.slots));
    }
      where
        pushed : words (st.found ++ c ∷ []) ≡ words st.found ++ c.0 ∷ []
        pushed = map_push (λ d. d.0) st.found c

        more : st.steps + 1 ≤ g.slots + starters g * length (st.found ++ c ∷ [])
        more =
            let l = unfinished_below g st unfinished in
            let e : starters g * length (st.found ++ c ∷ []) ≡ starters g * length st.found + starters g = ap (λ n. starters g * n) (length_push st.found c ∙ add-one (length st.found)) ∙ mul-suc (starters g) (length st.found) in
            omega arith

        front : g.slots ≤ st.steps → take (starters g) (words (st.found ++ c ∷ [])) ≡ starter_words g g.slots
        front past =
            let w = length-map st.found (λ c. c.0) in
            let n = starters_found past in
            ap (take (starters g)) pushed ∙ take-append-le (starters g) (words st.found) (c.0 ∷ []) (omega arith) ∙ sound.late past

        kept_pair : (k : ℕ) → g.slots ≤ st.steps → k < starters g * length st.found → met (st.found ++ c ∷ []) (starters g) k ≡ met st.found (starters g) k
        kept_pair k past within = met_push st.found c (starters g) k (pair_crew past k within) (pair_second past k within)

        old : (k : ℕ) → k < st.steps - g.slots → 0 < met (st.found ++ c ∷ []) (starters g) k → ContainsAt (words (st.found ++ c ∷ [])) (met (st.found ++ c ∷ []) (starters g) k)
        old k l some-met =
            let past : g.slots ≤ st.steps = omega arith in
            let b = this_pair past in
            let same = kept_pair k past (omega arith) in
            subst (λ m. ContainsAt m (met (st.found ++ c ∷ []) (starters g) k)) (sym pushed)
            (has_append_left (words st.found) (c.0 ∷ []) (met (st.found ++ c ∷ []) (starters g) k)
            (subst (ContainsAt (words st.found)) (sym same) (sound.paired k l (subst (λ w. 0 < w) same some-met))))

        this : (k : ℕ) → k < st.steps + 1 - g.slots → k ≡ st.steps - g.slots → ContainsAt (words (st.found ++ c ∷ [])) (met (st.found ++ c ∷ []) (starters g) k)
        this k l e =
            let past : g.slots ≤ st.steps = omega arith in
            let b = this_pair past in
            let adds = fresh_some g st c some in
            let same : met (st.found ++ c ∷ []) (starters g) k ≡ c.0 = kept_pair k past (omega arith) ∙ ap (met st.found (starters g)) e ∙ sym (wanted_pair g st past) ∙ sym (ap (λ d. d.0) adds.crew) in
            subst (λ m. ContainsAt m (met (st.found ++ c ∷ []) (starters g) k)) (sym pushed) (subst (ContainsAt (words st.found ++ c.0 ∷ [])) (sym same) (has_push (words st.found) c.0))

  pub step_sound : Sound g limit (after_step g limit st)
  step_sound = ⊎_elim (λ over. subst (Sound g limit) (sym (done_after g st limit over)) sound) (λ unfinished. go unfinished (fresh g st) refl) (cases_Bool (finished g st))
    where
      go : finished g st ≡ false → (o : Option (ℕ × ℕ)) → fresh g st ≡ o → Sound g limit (after_step g limit st)
      go unfinished None e = subst (Sound g limit) (sym (idle_after g st limit unfinished e)) (idle_sound unfinished e)
      go unfinished (Some c) e =
          ⊎_elim (λ room. subst (Sound g limit) (sym (added_after g st limit unfinished c e room)) (added_sound unfinished c e room))
          (λ full. subst (Sound g limit) (sym (full_after g st limit unfinished c e full)) sound)
          (cases_lt (length st.found) limit)

pub reached_sound : (g : Grid) → Proper g → (limit n : ℕ) → Sound g limit (reached g limit n)
unfolding reached
reached_sound g proper limit zero = beginning_sound g limit
reached_sound g proper limit (suc n) = step_sound g proper limit (reached g limit n) (reached_sound g proper limit n)
