-- What a list of all crews in crew order is, and the search for the first crew from a word on. Assumes nothing.
use Rattle.std.specs.Prelude.{◌≡◌, ℕ, zero, suc, ◌%◌, ◌^◌, ◌<◌, ◌≤◌, Bool, true, false, cond, not, ◌&&◌, ◌||◌, List, [], ◌∷◌, length, ◌==◌, bit_and, bit_or, nat_lt, slice_index_or}
use Rattle.std.specs.List.{ContainsAt, AllByRecursion}
use Rattle.words.specs.Bits.{bit, every}
use Rattle.words.specs.Order.{before}
use Rattle.tables.specs.Grid.{Grid, slot_word, shared_slots}
use Rattle.tables.specs.Crews.{is_crew}

-- each line of the list stands in relation r to every later one
abbrev pub Increasing : {A : Type 0} → (A → A → Bool) → List A → Type 0
Increasing r [] = Unit {0}
Increasing r (x ∷ xs) = AllByRecursion (λ y. r x y ≡ true) xs × Increasing r xs

-- the crew order: by the member words
abbrev pub crew_before : ℕ × ℕ → ℕ × ℕ → Bool
crew_before c d = before c.0 d.0

-- the list holds every crew of g, nothing else, none twice, in crew order
pub record ListsTheCrews (g : Grid) (l : List (ℕ × ℕ)) : Type 0 where
  pub increasing : Increasing crew_before l
  pub each_once : (i j : ℕ) (d : ℕ × ℕ) → i < length l → j < length l → slice_index_or l i d ≡ slice_index_or l j d → i ≡ j
  pub every_crew : (x y : ℕ) → is_crew g x y ≡ true → ContainsAt l (x, y)
  pub only_crews : (x y : ℕ) → ContainsAt l (x, y) → is_crew g x y ≡ true

-- (x, y) is the first crew from word p on
pub record FirstFrom (g : Grid) (p x y : ℕ) : Type 0 where
  pub crew : is_crew g x y ≡ true
  pub from : before x p ≡ false
  pub first : (x' y' : ℕ) → is_crew g x' y' ≡ true → before x' p ≡ false → before x' x ≡ false

-- a and b hold the same numbers below n
abbrev pub Alike : ℕ → ℕ → ℕ → Type 0
Alike n a b = (i : ℕ) → i < n → bit a i ≡ bit b i

-- x parts from w at number i: it holds the same numbers below i, and not i
abbrev pub PartsAt : ℕ → ℕ → ℕ → Type 0
PartsAt i w x = Alike (suc i) x (w % 2 ^ i)

-- no crew parts from w at number i
abbrev pub NoneParts : Grid → ℕ → ℕ → Type 0
NoneParts g w i = (x y : ℕ) → is_crew g x y ≡ true → PartsAt i w x → ⊥

-- no crew parts from w at a number of w from i on
abbrev pub NoneFrom : Grid → ℕ → ℕ → Type 0
NoneFrom g w i = (k : ℕ) → i ≤ k → k < g.members → bit w k ≡ true → NoneParts g w k

-- (x, y) is the first of the crews that part from w at number i
pub record FirstParts (g : Grid) (w i x y : ℕ) : Type 0 where
  pub crew : is_crew g x y ≡ true
  pub parts : PartsAt i w x
  pub first : (x' y' : ℕ) → is_crew g x' y' ≡ true → PartsAt i w x' → before x' x ≡ false

-- whether every number below n that has all slots of y is in word p
unfoldable pub closed_below : Grid → ℕ → ℕ → ℕ → Bool
closed_below g n p y = every (λ k. bit p k || not (bit_and y (slot_word g k) == y)) n

-- whether members with the shared slots y can be part of a crew that holds, of the numbers up to i, those of p
unfoldable pub fits : Grid → ℕ → ℕ → ℕ → Bool
unfolding closed_below
fits g i p y = nat_lt 0 y && closed_below g (suc i) p y

-- members x with their shared slots y, and number k taken in where that fits
unfoldable pub tried : Grid → ℕ → ℕ → ℕ → ℕ × ℕ → ℕ × ℕ
unfolding fits
tried g i p k (x, y) = cond (fits g i p (bit_and y (slot_word g k))) (bit_or x (2 ^ k), bit_and y (slot_word g k)) (x, y)

-- the members p with their shared slots, after each number above i and below k was tried
unfoldable pub pass : Grid → ℕ → ℕ → ℕ → ℕ × ℕ
unfolding tried
pass g i p zero = (p, shared_slots g p)
pass g i p (suc k) = cond (nat_lt i k) (tried g i p k (pass g i p k)) (pass g i p k)

-- what word p holds of the members of g
abbrev pub members_of : Grid → ℕ → ℕ
members_of g p = p % 2 ^ g.members

-- what the pass makes of the numbers of w below i
abbrev pub built : Grid → ℕ → ℕ → ℕ × ℕ
built g w i = pass g i (w % 2 ^ i) g.members
