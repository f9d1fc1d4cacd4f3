-- Marked pairs kept as codes, in increasing order in the first of some places. Assumes nothing.
use Rattle.std.specs.Prelude.{◌≡◌, ℕ, zero, suc, ◌+◌, ◌-◌, ◌*◌, ◌/◌, ◌%◌, ◌<◌, ◌≤◌, Bool, false, cond, ◌&&◌, ◌||◌, List, ◌==◌, nat_eq, nat_le, nat_lt, slice_index}
use Rattle.tables.specs.Grid.{Grid}

-- the code of member i and slot j
abbrev pub pair_code : ℕ → ℕ → ℕ
pair_code i j = 64 * i + j

-- whether some number below n passes the test f
unfoldable pub some : (ℕ → Bool) → ℕ → Bool
some f zero = false
some f (suc n) = f n || some f n

-- whether one of the used places holds c
abbrev pub listed : ℕ → List ℕ → ℕ → Bool
listed used places c = some (λ k. nat_eq (slice_index places k) c) used

-- what the codes of n members and m slots in the used places mean
abbrev pub coded_grid : ℕ → ℕ → ℕ → List ℕ → Grid
coded_grid n m used places = record { members = n; slots = m; marked = λ i j. (nat_lt i n && nat_lt j m) && listed used places (pair_code i j) }

-- the codes in use are increasing
abbrev pub Ascending : ℕ → List ℕ → Type 0
Ascending used places = (a b : ℕ) → a < b → b < used → slice_index places a < slice_index places b

-- every unused place holds 65,535, which is no code
abbrev pub Vacant : ℕ → List ℕ → Type 0
Vacant used places = (k : ℕ) → used ≤ k → k < 257 → slice_index places k ≡ 65535

-- every code in use is that of one of n members and one of m slots
abbrev pub PairsOf : ℕ → ℕ → ℕ → List ℕ → Type 0
PairsOf n m used places = (k : ℕ) → k < used → (slice_index places k / 64 < n) × (slice_index places k % 64 < m)

-- r is the first of the used places that holds c or more, or the number of used places where all hold less
pub record FirstPlace (places : List ℕ) (used c r : ℕ) : Type 0 where
  pub within : r ≤ used
  pub before : (k : ℕ) → k < r → slice_index places k < c
  pub there : r < used → c ≤ slice_index places r

-- what place k holds once c is put in at place `at` and the codes from there on are moved up by one
abbrev pub put_in : List ℕ → ℕ → ℕ → ℕ → ℕ → ℕ
put_in places used at c k = cond (nat_lt k at) (slice_index places k) (cond (k == at) c (cond (nat_le k used) (slice_index places (k - 1)) (slice_index places k)))

-- what place k holds once the code at place `at` is taken out and those after it are moved down by one
abbrev pub take_out : List ℕ → ℕ → ℕ → ℕ → ℕ
take_out places used at k = cond (nat_lt k at) (slice_index places k) (cond (nat_lt k used) (slice_index places (k + 1)) (slice_index places k))
