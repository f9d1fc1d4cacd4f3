-- The crews of a grid, and all of them in crew order. Assumes nothing.
use Rattle.std.specs.Prelude.{ℕ, zero, suc, ◌+◌, ◌*◌, Bool, cond, not, ◌&&◌, List, [], ◌∷◌, ◌++◌, map, ◌==◌, nat_lt}
use Rattle.words.specs.Order.{before}
use Rattle.tables.specs.Grid.{Grid, common_slots, common_members}

-- members x and slots y are a crew: neither is empty, and each is what the other has in common
unfoldable pub is_crew : Grid → ℕ → ℕ → Bool
is_crew g x y = (nat_lt 0 x && nat_lt 0 y) && (y == common_slots g x && x == common_members g y)

-- whether x is the member word of a crew
unfoldable pub manned : Grid → ℕ → Bool
unfolding is_crew
manned g x = is_crew g x (common_slots g x)

-- those that pass the test
unfoldable pub kept : {A : Type 0} → (A → Bool) → List A → List A
kept f [] = []
kept f (x ∷ xs) = cond (f x) (x ∷ kept f xs) (kept f xs)

-- all words of numbers below n, in the order of words: those with number 0 first
unfoldable pub all_words : ℕ → List ℕ
all_words zero = 0 ∷ []
all_words (suc n) = map (λ w. 1 + 2 * w) (all_words n) ++ map (λ w. 2 * w) (all_words n)

-- the member words of the crews of g, in crew order
unfoldable pub crew_words : Grid → List ℕ
unfolding manned kept all_words
crew_words g = kept (manned g) (all_words g.members)

-- the crews of g in crew order, each as its member word and its slot word
unfoldable pub crews : Grid → List (ℕ × ℕ)
unfolding crew_words
crews g = map (λ x. (x, common_slots g x)) (crew_words g)

-- the crews whose member word is not before p
unfoldable pub ahead : Grid → ℕ → List (ℕ × ℕ)
unfolding kept crews
ahead g p = kept (λ c. not (before c.0 p)) (crews g)
