-- What the finder's steps come to from the beginning on: the rule as it is told, and what is found in all. Assumes nothing.
use Rattle.std.specs.Prelude.{◌≡◌, ℕ, ◌+◌, ◌-◌, ◌*◌, ◌<◌, ◌≤◌, true, false, cond, map, length, take, is_some, Ok, Err, Decides, Result, nat_le, slice_index_or}
use Rattle.std.specs.List.{ContainsAt}
use Rattle.tables.specs.Crews.{is_crew, crews}
use Rattle.tables.specs.Grid.{Grid}
use Rattle.finders.specs.Finder.{Finding, starter_words, starters, wanted, finished, fresh, reached}
use Rattle.finders.specs.Found.{has_members}
use Rattle.finders.specs.declared.refusals.StepRefusal.{StepRefusal}
use Rattle.finders.specs.declared.refusals.StepRefusal.TheVariants.{Full}

-- at this state the next step does as the rule is told
pub record Told (g : Grid) (st : Finding) : Type 0 where
  -- finished says that every slot was taken, and just as many pairs as there are of a found crew and a starter
  pub finished_just : Decides (finished g st) ((g.slots ≤ st.steps) × (st.steps - g.slots ≡ starters g * length st.found))
  -- a crew is to be added just where the wanted members are some and no found crew has them
  pub adds_just : finished g st ≡ false → Decides (is_some (fresh g st)) ((0 < wanted g st) × (has_members (wanted g st) st.found ≡ false))
  -- after the last slot the found crews begin with the starters
  pub starters_first : g.slots ≤ st.steps → map (λ c. c.0) (take (starters g) st.found) ≡ starter_words g g.slots

-- every state that steps reach is so
abbrev pub RuleStands : Grid → ℕ → Type 0
RuleStands g limit = (n : ℕ) → Told g (reached g limit n)

-- the state at which steps from the beginning on were first answered done (Ok) or refused (Err)
pub record FoundAll (g : Grid) (limit : ℕ) (st : Finding) (answer : Result (Unit {0}) StepRefusal) : Type 0 where
  -- it is the state of the rule after so many steps
  pub by_rule : st ≡ reached g limit st.steps
  -- and these were no more than there are slots, and pairs of a found crew and a starter
  pub steps_told : st.steps ≤ g.slots + starters g * length st.found
  -- what is found are crews, and none twice
  pub only_crews : (x y : ℕ) → ContainsAt st.found (x, y) → is_crew g x y ≡ true
  pub each_once : (i j : ℕ) (d : ℕ × ℕ) → i < length st.found → j < length st.found → slice_index_or st.found i d ≡ slice_index_or st.found j d → i ≡ j
  -- the steps end with done just where the limit admits all crews, and are refused otherwise
  pub answered : answer ≡ cond (nat_le (length (crews g)) limit) (Ok tt) (Err Full)
  -- done says that every crew is found
  pub every_crew : answer ≡ Ok tt → (x y : ℕ) → is_crew g x y ≡ true → ContainsAt st.found (x, y)
  pub as_many : answer ≡ Ok tt → length st.found ≡ length (crews g)
  -- a refusal says that as many crews are found as the limit admits
  pub full : answer ≡ Err Full → length st.found ≡ limit
