-- Whole runs of steps: the rule as it is told stands at each state, and what is found when the steps end. Assumes nothing.
use Rattle.std.proofs.Common.{◌≡◌, ℕ, ◌+◌, ◌-◌, ◌*◌, ◌<◌, ◌≤◌, true, false, length, get_or, is_some, Some, None, Ok, Err, Decides, Option, sym, refl, ap, ◌∙◌, subst, ⊎_elim, add-one, arith}
use lib.ListN.{length-map}
use Rattle.std.specs.List.{ContainsAt}
use Rattle.std.proofs.ByRecursion.{all-has}
use Rattle.std.proofs.lemmas.List.{take-map, get_or_default}
use Rattle.std.proofs.lemmas.Bool.{both_ways, cond-true, cond-false, le-leb, lt-leb}
use Rattle.tables.specs.Crews.{is_crew, crews}
use Rattle.tables.specs.Grid.{Grid, Proper}
use Rattle.finders.specs.Finder.{Finding, beginning, starters, wanted, finished, fresh, step_answer, after_step, reached}
use Rattle.finders.specs.Found.{has_members}
use Rattle.finders.specs.declared.finder.Step.TheVariants.{Worked, Done}
use Rattle.finders.specs.declared.refusals.StepRefusal.{StepRefusal}
use Rattle.finders.specs.declared.refusals.StepRefusal.TheVariants.{Full}
use Rattle.finders.proofs.Complete.{found_complete, found_all_length, fresh_more}
use Rattle.finders.proofs.MemberWords.{at_words, held_tells}
use Rattle.finders.proofs.Rule.{Refused, step_ways, finished_past, past_finished, fresh_some}
use Rattle.finders.proofs.Sound.{Sound, fresh_none, reached_sound}
use Rattle.sessions.specs.FindAll.{Told, RuleStands, FoundAll}

-- ---- the rule as it is told

module _ (g : Grid) (proper : Proper g) (limit : ℕ) (st : Finding) (sound : Sound g limit st) where
  finished_tells : Decides (finished g st) ((g.slots ≤ st.steps) × (st.steps - g.slots ≡ starters g * length st.found))
  finished_tells = (
    λ over. let l = finished_past g st over in let m = sound.within_pairs in (omega arith, omega arith),
    λ f. let a = f.0 in let b = f.1 in past_finished g st (omega arith),
  )

  adds_tells : finished g st ≡ false → Decides (is_some (fresh g st)) ((0 < wanted g st) × (has_members (wanted g st) st.found ≡ false))
  adds_tells unfinished = go (fresh g st) refl
    where
      go : (o : Option (ℕ × ℕ)) → fresh g st ≡ o → Decides (is_some o) ((0 < wanted g st) × (has_members (wanted g st) st.found ≡ false))
      go None e = (λ h. absurd (both_ways false refl h), λ f. absurd (both_ways _ f.1 ((held_tells _ st.found).1 (fresh_none g proper limit st sound unfinished e f.0))))
      go (Some c) e = (λ _. let adds = fresh_some g st c e in (adds.some_member, adds.unheld), λ _. refl)

  sound_told : Told g st
  sound_told = record {
    finished_just = finished_tells;
    adds_just = adds_tells;
    starters_first = λ past. sym (take-map (λ c. c.0) (starters g) st.found) ∙ sound.late past;
  }

pub rule_stands : (g : Grid) → Proper g → (limit : ℕ) → RuleStands g limit
rule_stands g proper limit n = sound_told g proper limit (reached g limit n) (reached_sound g proper limit n)

-- ---- one step more

pub reached_none : (g : Grid) (limit n : ℕ) → n ≡ 0 → reached g limit n ≡ beginning
unfolding reached
reached_none g limit n e = ap (reached g limit) e

pub reached_more : (g : Grid) (limit n : ℕ) → reached g limit (n + 1) ≡ after_step g limit (reached g limit n)
unfolding reached
reached_more g limit n = ap (reached g limit) (add-one n)

-- the state after a step that worked is that of the rule after one step more
pub worked_reached : (g : Grid) (limit : ℕ) (st next : Finding) → st ≡ reached g limit st.steps → next ≡ after_step g limit st → Ok Worked ≡ step_answer g limit st → (next ≡ reached g limit next.steps) × (next.steps ≡ st.steps + 1)
worked_reached g limit st next rule after answer =
    let more : next.steps ≡ st.steps + 1 = ⊎_elim
    (λ e. let y = e.answer in let z : ◌≡◌ {A = ℕ} 0 1 = cc in absurd (omega arith))
    (⊎_elim (λ w. ap (λ s. s.steps) after ∙ w.after) (λ r. let y = r.answer in let z : ◌≡◌ {A = ℕ} 0 1 = cc in absurd (omega arith)))
    (step_ways g st limit) in
    (after ∙ ap (after_step g limit) rule ∙ sym (reached_more g limit st.steps) ∙ ap (reached g limit) (sym more), more)

-- ---- the end

module _ (g : Grid) (proper : Proper g) (limit : ℕ) (st : Finding) (rule : st ≡ reached g limit st.steps) where
  sound : Sound g limit st
  sound = subst (Sound g limit) (sym rule) (reached_sound g proper limit st.steps)

  once : (i j : ℕ) (d : ℕ × ℕ) → i < length st.found → j < length st.found → get_or st.found i d ≡ get_or st.found j d → i ≡ j
  once i j d hi hj e =
      let F = st.found in
      let long = length-map F (λ c. c.0) in
      sound.once i j (omega arith) (omega arith)
      (at_words F i ∙ ap (λ c. c.0) (get_or_default F i (0, 0) d hi ∙ e ∙ get_or_default F j d (0, 0) hj) ∙ sym (at_words F j))

  only : (x y : ℕ) → ContainsAt st.found (x, y) → is_crew g x y ≡ true
  only x y h = all-has (λ c. is_crew g c.0 c.1 ≡ true) st.found (x, y) sound.only_crews h

  done_all : finished g st ≡ true → FoundAll g limit st (Ok tt)
  done_all over =
      let n = found_all_length g proper limit st sound over in
      let l = sound.within_limit in
      record {
        by_rule = rule;
        steps_told = sound.within_pairs;
        only_crews = only;
        each_once = once;
        answered = sym (cond-true _ _ _ (le-leb (length (crews g)) limit (omega arith)));
        every_crew = λ _. found_complete g proper limit st sound over;
        as_many = λ _. n;
        full = λ e. let z : ◌≡◌ {A = ℕ} 0 1 = cc in absurd (omega arith);
      }

  refused_all : Refused g st limit → FoundAll g limit st (Err Full)
  refused_all r =
      let n = fresh_more g proper limit st sound r.unfinished r.crew r.adds in
      let l = sound.within_limit in
      let f = r.full in
      record {
        by_rule = rule;
        steps_told = sound.within_pairs;
        only_crews = only;
        each_once = once;
        answered = sym (cond-false _ _ _ (lt-leb (length (crews g)) limit (omega arith)));
        every_crew = λ e. let z : ◌≡◌ {A = ℕ} 0 1 = cc in absurd (omega arith);
        as_many = λ e. let z : ◌≡◌ {A = ℕ} 0 1 = cc in absurd (omega arith);
        full = λ _. omega arith;
      }

  -- the state after a step that was answered done
  pub ended_done : (next : Finding) → next ≡ after_step g limit st → Ok Done ≡ step_answer g limit st → FoundAll g limit next (Ok tt)
  ended_done next after answer =
      ⊎_elim
      (λ e. subst (λ s. FoundAll g limit s (Ok tt)) (sym (after ∙ e.after)) (done_all e.over))
      (⊎_elim
      (λ w. let y = w.answer in let z : ◌≡◌ {A = ℕ} 0 1 = cc in absurd (omega arith))
      (λ r. let y = r.answer in let z : ◌≡◌ {A = ℕ} 0 1 = cc in absurd (omega arith)))
      (step_ways g st limit)

  -- the state after a step that was refused
  pub ended_refused : (next : Finding) (why : StepRefusal) → next ≡ after_step g limit st → Err why ≡ step_answer g limit st → FoundAll g limit next (Err why)
  ended_refused next Full after answer =
      ⊎_elim
      (λ e. let y = e.answer in let z : ◌≡◌ {A = ℕ} 0 1 = cc in absurd (omega arith))
      (⊎_elim
      (λ w. let y = w.answer in let z : ◌≡◌ {A = ℕ} 0 1 = cc in absurd (omega arith))
      (λ r. subst (λ s. FoundAll g limit s (Err Full)) (sym (after ∙ r.after)) (refused_all r)))
      (step_ways g st limit)
