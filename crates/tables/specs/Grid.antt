-- What a table means: its numbers of members and slots, and which pairs of them are marked. Assumes nothing.
use Rattle.std.specs.Prelude.{◌≡◌, ℕ, ◌^◌, ◌<◌, ◌≤◌, Bool, true, cond, not, ◌||◌, ◌==◌, nat_lt}
use Rattle.words.specs.Bits.{bit, gather, every}

pub record Grid : Type 0 where
  pub members : ℕ
  pub slots : ℕ
  pub marked : ℕ → ℕ → Bool

-- a grid that a table may mean: 1 to 64 members and slots, and no mark outside
pub record Proper (g : Grid) : Type 0 where
  pub some_member : 1 ≤ g.members
  pub members_fit : g.members ≤ 64
  pub some_slot : 1 ≤ g.slots
  pub slots_fit : g.slots ≤ 64
  pub inside : (i j : ℕ) → g.marked i j ≡ true → (i < g.members) × (j < g.slots)

-- members and slots exchanged
abbrev pub turned : Grid → Grid
turned g = record { members = g.slots; slots = g.members; marked = λ i j. g.marked j i }

-- the slots of member i
unfoldable pub slot_word : Grid → ℕ → ℕ
slot_word g i = gather (λ j. g.marked i j) g.slots

-- the members of slot j
abbrev pub member_word : Grid → ℕ → ℕ
member_word g j = slot_word (turned g) j

-- whether slot j is marked for every member of word x
unfoldable pub shared : Grid → ℕ → ℕ → Bool
shared g x j = every (λ i. not (bit x i) || g.marked i j) g.members

-- the slots that all members of word x have: every slot where x is empty
unfoldable pub shared_slots : Grid → ℕ → ℕ
shared_slots g x = gather (shared g x) g.slots

-- the common slots of word x: none for no members, and none where x holds a number that is no member
unfoldable pub common_slots : Grid → ℕ → ℕ
common_slots g x = cond (x == 0) 0 (cond (nat_lt x (2 ^ g.members)) (shared_slots g x) 0)

abbrev pub common_members : Grid → ℕ → ℕ
common_members g y = common_slots (turned g) y
