-- How many steps work: as many as there are slots, and pairs of a crew and a starter, where the limit admits all crews, and then each step is done;
-- or fewer, and then each step is refused. Assumes nothing.
use Rattle.std.proofs.Common.{◌≡◌, ℕ, zero, suc, ◌+◌, ◌*◌, ◌<◌, ◌≤◌, min, true, false, ◌⊎◌, length, Ok, Err, refl, ap, ◌∙◌, inl, inr, ⊎_elim, mul-le-mul_left, add-one, arith}
use Rattle.tables.specs.Crews.{crews}
use Rattle.tables.specs.Grid.{Grid, Proper}
use Rattle.finders.specs.Finder.{Finding, starters, finished, step_answer, after_step, reached}
use Rattle.finders.specs.declared.finder.Step.TheVariants.{Worked, Done}
use Rattle.finders.specs.declared.refusals.StepRefusal.TheVariants.{Full}
use Rattle.finders.proofs.Complete.{found_short, found_all_length, fresh_more}
use Rattle.finders.proofs.Rule.{Refused, step_ways, unfinished_below, finished_past}
use Rattle.finders.proofs.Sound.{Sound, reached_sound}

module _ (g : Grid) (proper : Proper g) (limit : ℕ) where
  -- the steps that work where the limit admits all crews
  abbrev pub all_steps : ℕ
  all_steps = g.slots + starters g * length (crews g)

  next : (n : ℕ) → reached g limit (suc n) ≡ after_step g limit (reached g limit n)
  unfolding reached
  next n = refl

  start : (reached g limit 0).steps ≡ 0
  unfolding reached
  start = refl

  -- ---- the limit admits all crews

  module _ (admits : length (crews g) ≤ limit) where
    never_refused : (st : Finding) → Sound g limit st → Refused g st limit → ⊥
    never_refused st sound r = let l = fresh_more g proper limit st sound r.unfinished r.crew r.adds in let f = r.full in omega arith

    ends_at : (st : Finding) → Sound g limit st → finished g st ≡ true → all_steps ≤ st.steps
    ends_at st sound over =
        let l = finished_past g st over in
        let e = ap (λ n. starters g * n) (found_all_length g proper limit st sound over) in
        omega arith

    works_before : (st : Finding) → Sound g limit st → finished g st ≡ false → st.steps < all_steps
    works_before st sound unfinished =
        let l = unfinished_below g st unfinished in
        let m = mul-le-mul_left (starters g) (found_short g proper limit st sound) in
        omega arith

    -- after n steps so many have worked
    pub steps_worked : (n : ℕ) → (reached g limit n).steps ≡ min n all_steps
    steps_worked zero = let e = start in omega arith
    steps_worked (suc n) =
        let st = reached g limit n in
        let sound = reached_sound g proper limit n in
        let sofar = steps_worked n in
        let e = ap (λ s. s.steps) (next n) in
        ⊎_elim
        (λ d. let s = ap (λ s. s.steps) d.after in let l = ends_at st sound d.over in omega arith)
        (⊎_elim (λ w. let s = w.after in let l = works_before st sound w.unfinished in omega arith) (λ r. absurd (never_refused st sound r)))
        (step_ways g st limit)

    pub works_until : (n : ℕ) → n < all_steps → step_answer g limit (reached g limit n) ≡ Ok Worked
    works_until n l =
        let st = reached g limit n in
        let sound = reached_sound g proper limit n in
        let sofar = steps_worked n in
        ⊎_elim
        (λ d. let b = ends_at st sound d.over in absurd (omega arith))
        (⊎_elim (λ w. w.answer) (λ r. absurd (never_refused st sound r)))
        (step_ways g st limit)

    pub done_from : (n : ℕ) → all_steps ≤ n → step_answer g limit (reached g limit n) ≡ Ok Done
    done_from n l =
        let st = reached g limit n in
        let sound = reached_sound g proper limit n in
        let sofar = steps_worked n in
        ⊎_elim
        (λ d. d.answer)
        (⊎_elim (λ w. let b = works_before st sound w.unfinished in absurd (omega arith)) (λ r. absurd (never_refused st sound r)))
        (step_ways g st limit)

  -- ---- there are more crews than the limit admits

  module _ (more : limit < length (crews g)) where
    never_done : (st : Finding) → Sound g limit st → finished g st ≡ true → ⊥
    never_done st sound over = let n = found_all_length g proper limit st sound over in let l = sound.within_limit in omega arith

    -- no more steps work than there are slots, and pairs of as many crews as the limit admits
    pub steps_fewer : (n : ℕ) → (reached g limit n).steps ≤ g.slots + starters g * limit
    steps_fewer n =
        let sound = reached_sound g proper limit n in
        let l = sound.within_pairs in
        let m = mul-le-mul_left (starters g) sound.within_limit in
        omega arith

    refused_stays : (n : ℕ) → step_answer g limit (reached g limit n) ≡ Err Full → step_answer g limit (reached g limit (suc n)) ≡ Err Full
    refused_stays n full =
        ⊎_elim
        (λ d. let y = d.answer in let z : ◌≡◌ {A = ℕ} 0 1 = cc in absurd (omega arith))
        (⊎_elim
        (λ w. let y = w.answer in let z : ◌≡◌ {A = ℕ} 0 1 = cc in absurd (omega arith))
        (λ r. ap (step_answer g limit) (next n ∙ r.after) ∙ full))
        (step_ways g (reached g limit n) limit)

    worked_or_refused : (n : ℕ) → ((reached g limit n).steps ≡ n) ⊎ (step_answer g limit (reached g limit n) ≡ Err Full)
    worked_or_refused zero = inl start
    worked_or_refused (suc n) =
        ⊎_elim
        (λ all. ⊎_elim
        (λ d. absurd (never_done (reached g limit n) (reached_sound g proper limit n) d.over))
        (⊎_elim
        (λ w. inl (ap (λ s. s.steps) (next n) ∙ w.after ∙ add-one _ ∙ ap suc all))
        (λ r. inr (refused_stays n r.answer)))
        (step_ways g (reached g limit n) limit))
        (λ full. inr (refused_stays n full))
        (worked_or_refused n)

    -- past these every step is refused
    pub refused_from : (n : ℕ) → g.slots + starters g * limit < n → step_answer g limit (reached g limit n) ≡ Err Full
    refused_from n l = ⊎_elim (λ all. let b = steps_fewer n in absurd (omega arith)) (λ full. full) (worked_or_refused n)
