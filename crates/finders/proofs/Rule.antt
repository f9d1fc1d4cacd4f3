-- The finder's rule by its cases: what a step takes, answers and leaves. Assumes nothing.
use Rattle.std.proofs.Common.{◌≡◌, ℕ, zero, suc, ◌+◌, ◌-◌, ◌*◌, ◌<◌, ◌≤◌, true, false, cond, ◌⊎◌, [], ◌∷◌, ◌++◌, length, Some, None, Ok, Err, Option, sym, refl, ap, ◌∙◌, inl, inr, ⊎_elim, mul-le-mul, zero-mul, arith}
use Rattle.std.proofs.lemmas.Bool.{leb-true, leb-false, le-leb, lt-leb, lt-ltb, le-ltb, cond-true, cond-false, cases_Bool, cases_lt}
use Rattle.tables.specs.Grid.{Grid, Proper, member_word, common_slots}
use Rattle.tables.specs.Sides.{crew_of}
use Rattle.tables.proofs.Sides.{none_some, crew_of_some}
use Rattle.finders.specs.Finder.{Finding, starters, met, wanted, finished, fresh, due, stepped, adding_answer, after_adding, step_answer, after_step}
use Rattle.finders.specs.Found.{has_members}
use Rattle.finders.specs.declared.finder.Finder.{Finder}
use Rattle.finders.specs.declared.finder.Step.TheVariants.{Worked, Done}
use Rattle.finders.specs.declared.refusals.StepRefusal.TheVariants.{Full}
use Rattle.finders.proofs.Starting.{starters_most}

-- crew c is the wanted members with their common slots, neither of them empty, and no found crew has these members
pub record Adds (g : Grid) (st : Finding) (c : ℕ × ℕ) : Type 0 where
  pub crew : c ≡ (wanted g st, common_slots g (wanted g st))
  pub some_member : 0 < wanted g st
  pub some_slot : 0 < common_slots g (wanted g st)
  pub unheld : has_members (wanted g st) st.found ≡ false

-- a product with something below it has no factor 0
pub factor_some : (s n k : ℕ) → k < s * n → 0 < s
factor_some zero n k h = let z = zero-mul n in absurd (omega arith)
factor_some (suc s) n k h = omega arith

-- a finder never holds more crews than its list has places
pub found_fits : (f : Finder) → length f.found ≤ 512
found_fits f = let within = f.within_limit in let fits = f.limit_fits in omega arith

module _ (g : Grid) (st : Finding) where
  -- ---- what a step takes

  pub unfinished_below : finished g st ≡ false → st.steps < g.slots + starters g * length st.found
  unfolding finished
  unfinished_below h = leb-false _ _ h

  pub finished_past : finished g st ≡ true → g.slots + starters g * length st.found ≤ st.steps
  unfolding finished
  finished_past h = leb-true _ _ h

  pub past_finished : g.slots + starters g * length st.found ≤ st.steps → finished g st ≡ true
  unfolding finished
  past_finished h = le-leb _ _ h

  -- the steps of a finder with up to 512 found crews are few
  pub steps_few : Proper g → length st.found ≤ 512 → finished g st ≡ false → st.steps + 1 ≤ 64 + 64 * 512
  steps_few proper fits h =
      let l = unfinished_below h in
      let most = starters_most g in
      let few = proper.slots_fit in
      let starters-few : starters g ≤ 64 = omega arith in
      let product : starters g * length st.found ≤ 64 * 512 = mul-le-mul starters-few fits in
      omega arith

  pub wanted_slot : st.steps < g.slots → wanted g st ≡ member_word g st.steps
  unfolding wanted
  wanted_slot h = cond-true _ _ _ (lt-ltb st.steps g.slots h)

  pub wanted_pair : g.slots ≤ st.steps → wanted g st ≡ met st.found (starters g) (st.steps - g.slots)
  unfolding wanted
  wanted_pair h = cond-false _ _ _ (le-ltb st.steps g.slots h)

  -- ---- the members that are due

  pub due_none : due g st ≡ None → finished g st ≡ true
  due_none e = ⊎_elim (λ h. h) (λ h. absurd (none_some _ (sym e ∙ cond-false _ _ _ h))) (cases_Bool (finished g st))

  pub due_some : (m : ℕ) → due g st ≡ Some m → (finished g st ≡ false) × (m ≡ wanted g st)
  due_some m e =
      ⊎_elim
      (λ h. absurd (none_some m (sym (cond-true _ _ _ h) ∙ e)))
      (λ h. let same : Some m ≡ Some (wanted g st) = sym e ∙ cond-false _ _ _ h in (h, cc))
      (cases_Bool (finished g st))

  pub none_due : g.slots + starters g * length st.found ≤ st.steps → due g st ≡ None
  none_due h = cond-true _ _ _ (past_finished h)

  pub slot_due : st.steps < g.slots → due g st ≡ Some (member_word g st.steps)
  unfolding finished
  slot_due h = cond-false _ _ _ (lt-leb _ st.steps (omega arith)) ∙ ap Some (wanted_slot h)

  pub pair_due : g.slots ≤ st.steps → st.steps < g.slots + starters g * length st.found → due g st ≡ Some (met st.found (starters g) (st.steps - g.slots))
  unfolding finished
  pair_due past h = cond-false _ _ _ (lt-leb _ st.steps h) ∙ ap Some (wanted_pair past)

  -- ---- the crew that it adds

  -- the crew that is made of the members due
  pub fresh_due : (m : ℕ) (o : Option (ℕ × ℕ)) → m ≡ wanted g st → o ≡ cond (has_members m st.found) None (crew_of m (common_slots g m)) → o ≡ fresh g st
  unfolding fresh
  fresh_due m o same e = e ∙ ap (λ x. cond (has_members x st.found) None (crew_of x (common_slots g x))) same

  pub fresh_held : has_members (wanted g st) st.found ≡ true → fresh g st ≡ None
  unfolding fresh
  fresh_held h = cond-true _ _ _ h

  pub fresh_new : has_members (wanted g st) st.found ≡ false → fresh g st ≡ crew_of (wanted g st) (common_slots g (wanted g st))
  unfolding fresh
  fresh_new h = cond-false _ _ _ h

  -- a crew that is added has the wanted members, which no found crew has
  pub fresh_some : (c : ℕ × ℕ) → fresh g st ≡ Some c → Adds g st c
  fresh_some c e =
      ⊎_elim
      (λ h. absurd (none_some c (sym (fresh_held h) ∙ e)))
      (λ h. let made = crew_of_some _ _ c (sym (fresh_new h) ∙ e) in record { crew = made.0; some_member = made.1; some_slot = made.2; unheld = h })
      (cases_Bool (has_members (wanted g st) st.found))

  -- ---- what it answers and leaves

  module _ (limit : ℕ) where
    pub done_answer : finished g st ≡ true → step_answer g limit st ≡ Ok Done
    unfolding step_answer
    done_answer h = cond-true _ _ _ h

    pub done_after : finished g st ≡ true → after_step g limit st ≡ st
    unfolding after_step
    done_after h = cond-true _ _ _ h

    module _ (unfinished : finished g st ≡ false) where
      open_answer : step_answer g limit st ≡ adding_answer limit st (fresh g st)
      unfolding step_answer
      open_answer = cond-false _ _ _ unfinished

      open_after : after_step g limit st ≡ after_adding limit st (fresh g st)
      unfolding after_step
      open_after = cond-false _ _ _ unfinished

      pub idle_answer : fresh g st ≡ None → step_answer g limit st ≡ Ok Worked
      idle_answer none = open_answer ∙ ap (adding_answer limit st) none

      pub idle_after : fresh g st ≡ None → after_step g limit st ≡ stepped st st.found
      idle_after none = open_after ∙ ap (after_adding limit st) none

      module _ (c : ℕ × ℕ) (some : fresh g st ≡ Some c) where
        pub full_answer : limit ≤ length st.found → step_answer g limit st ≡ Err Full
        full_answer h = open_answer ∙ ap (adding_answer limit st) some ∙ cond-true _ _ _ (le-leb limit _ h)

        pub full_after : limit ≤ length st.found → after_step g limit st ≡ st
        full_after h = open_after ∙ ap (after_adding limit st) some ∙ cond-true _ _ _ (le-leb limit _ h)

        pub added_answer : length st.found < limit → step_answer g limit st ≡ Ok Worked
        added_answer h = open_answer ∙ ap (adding_answer limit st) some ∙ cond-false _ _ _ (lt-leb limit _ h)

        pub added_after : length st.found < limit → after_step g limit st ≡ stepped st (st.found ++ c ∷ [])
        added_after h = open_after ∙ ap (after_adding limit st) some ∙ cond-false _ _ _ (lt-leb limit _ h)

    -- ---- the ways of a step

    -- a refused step: it would add a crew, and the limit admits no more
    pub record Refused : Type 0 where
      pub answer : step_answer g limit st ≡ Err Full
      pub after : after_step g limit st ≡ st
      pub unfinished : finished g st ≡ false
      pub crew : ℕ × ℕ
      pub adds : fresh g st ≡ Some crew
      pub full : limit ≤ length st.found

    pub record Works : Type 0 where
      pub answer : step_answer g limit st ≡ Ok Worked
      pub after : (after_step g limit st).steps ≡ st.steps + 1
      pub unfinished : finished g st ≡ false

    pub record Ends : Type 0 where
      pub answer : step_answer g limit st ≡ Ok Done
      pub after : after_step g limit st ≡ st
      pub over : finished g st ≡ true

    pub step_ways : Ends ⊎ (Works ⊎ Refused)
    step_ways = ⊎_elim (λ h. inl (record { answer = done_answer h; after = done_after h; over = h })) (λ h. inr (go h (fresh g st) refl)) (cases_Bool (finished g st))
      where
        go : finished g st ≡ false → (o : Option (ℕ × ℕ)) → fresh g st ≡ o → Works ⊎ Refused
        go h None e = inl (record { answer = idle_answer h e; after = ap (λ s. s.steps) (idle_after h e); unfinished = h })
        go h (Some c) e =
            ⊎_elim (λ room. inl (record { answer = added_answer h c e room; after = ap (λ s. s.steps) (added_after h c e room); unfinished = h }))
            (λ full. inr (record { answer = full_answer h c e full; after = full_after h c e full; unfinished = h; crew = c; adds = e; full = full }))
            (cases_lt (length st.found) limit)
