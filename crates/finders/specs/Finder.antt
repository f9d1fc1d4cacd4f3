-- The finder's rule: what a step takes, what it answers and what it leaves. Assumes nothing.
use Rattle.std.specs.Prelude.{ℕ, zero, suc, ◌+◌, ◌-◌, ◌*◌, ◌/◌, ◌%◌, Bool, cond, not, ◌&&◌, List, [], ◌∷◌, ◌++◌, length, Some, None, Ok, Err, Option, Result, ◌==◌, bit_and, nat_le, nat_lt, slice_index_or}
use Rattle.words.specs.Bits.{every}
use Rattle.tables.specs.Grid.{Grid, member_word, common_slots}
use Rattle.tables.specs.Sides.{crew_of}
use Rattle.finders.specs.Found.{has_members}
use Rattle.finders.specs.declared.finder.Finder.{Finder}
use Rattle.finders.specs.declared.finder.Step.{Step}
use Rattle.finders.specs.declared.finder.Step.TheVariants.{Worked, Done}
use Rattle.finders.specs.declared.refusals.StepRefusal.{StepRefusal}
use Rattle.finders.specs.declared.refusals.StepRefusal.TheVariants.{Full}

-- the crews found so far, each as its member word and its slot word, and how many steps have worked
pub record Finding : Type 0 where
  pub found : List (ℕ × ℕ)
  pub steps : ℕ

abbrev pub finding : Finder → Finding
finding f = record { found = f.found; steps = f.worked }

-- nothing found, and no step worked
abbrev pub beginning : Finding
beginning = record { found = []; steps = 0 }

-- whether slot j has members and is the first slot with just these
unfoldable pub starts : Grid → ℕ → Bool
starts g j = nat_lt 0 (member_word g j) && every (λ k. not (member_word g k == member_word g j)) j

-- the different member words of the first n slots, without the empty one, in the order of the slots
unfoldable pub starter_words : Grid → ℕ → List ℕ
unfolding starts
starter_words g zero = []
starter_words g (suc n) = cond (starts g n) (starter_words g n ++ member_word g n ∷ []) (starter_words g n)

-- how many starters there are: crews whose members are those of a slot
unfoldable pub starters : Grid → ℕ
unfolding starter_words
starters g = length (starter_words g g.slots)

-- the members of crew number k of a list, counted from 0; none where the list is no longer
abbrev pub members_at : List (ℕ × ℕ) → ℕ → ℕ
members_at l k = (slice_index_or l k (0, 0)).0

-- what the crew and the starter of pair number u have in common, where there are s starters
unfoldable pub met : List (ℕ × ℕ) → ℕ → ℕ → ℕ
met l s u = bit_and (members_at l (u / s)) (members_at l (u % s))

-- the members that the next step takes: those of the next slot, and after the last slot what the next pair has in common
unfoldable pub wanted : Grid → Finding → ℕ
unfolding starters met
wanted g st = cond (nat_lt st.steps g.slots) (member_word g st.steps) (met st.found (starters g) (st.steps - g.slots))

-- whether every slot was taken and every found crew has met every starter
unfoldable pub finished : Grid → Finding → Bool
unfolding starters
finished g st = nat_le (g.slots + starters g * length st.found) st.steps

-- the crew that the next step adds: the wanted members with their common slots, unless there are none or a found crew has these members.
-- At every state that steps reach, members that are wanted have common slots.
unfoldable pub fresh : Grid → Finding → Option (ℕ × ℕ)
unfolding wanted
fresh g st = cond (has_members (wanted g st) st.found) None (crew_of (wanted g st) (common_slots g (wanted g st)))

-- the members that the next step takes, or none where it has nothing left to take
abbrev pub due : Grid → Finding → Option ℕ
due g st = cond (finished g st) None (Some (wanted g st))

-- the state after a step that worked and left the crews as told
abbrev pub stepped : Finding → List (ℕ × ℕ) → Finding
stepped st crews = record { found = crews; steps = st.steps + 1 }

-- the answer of an unfinished step that would add what is told: refused where the limit admits no more
abbrev pub adding_answer : ℕ → Finding → Option (ℕ × ℕ) → Result Step StepRefusal
adding_answer limit st None = Ok Worked
adding_answer limit st (Some c) = cond (nat_le limit (length st.found)) (Err Full) (Ok Worked)

-- the state after an unfinished step that would add what is told: a refused one changes nothing
abbrev pub after_adding : ℕ → Finding → Option (ℕ × ℕ) → Finding
after_adding limit st None = stepped st st.found
after_adding limit st (Some c) = cond (nat_le limit (length st.found)) st (stepped st (st.found ++ c ∷ []))

-- the answer of a step
unfoldable pub step_answer : Grid → ℕ → Finding → Result Step StepRefusal
unfolding finished fresh
step_answer g limit st = cond (finished g st) (Ok Done) (adding_answer limit st (fresh g st))

-- the state after a step
unfoldable pub after_step : Grid → ℕ → Finding → Finding
unfolding finished fresh
after_step g limit st = cond (finished g st) st (after_adding limit st (fresh g st))

-- the state after n steps from the beginning
unfoldable pub reached : Grid → ℕ → ℕ → Finding
unfolding after_step
reached g limit zero = beginning
reached g limit (suc n) = after_step g limit (reached g limit n)
