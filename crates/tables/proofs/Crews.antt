-- The crews of a grid as facts, and that they are all listed, in crew order. Assumes nothing.
use Rattle.std.proofs.Common.{◌≡◌, ℕ, zero, suc, ◌+◌, ◌*◌, ◌/◌, ◌%◌, ◌^◌, ◌<◌, ◌≤◌, true, ◌&&◌, eqb, ltb, List, [], ◌∷◌, map, length, get_or, Decides, sym, refl, ◌∙◌, subst, ⊎_elim, le_of_suc-le-suc, arith}
use Rattle.std.specs.List.{ContainsAt, AllByRecursion}
use Rattle.std.proofs.lemmas.Bool.Decides.{same_from_decides}
use Rattle.std.proofs.ByRecursion.{All-append, All-map, All-weaker, all-has, has_append_left, has_append_right}
use Rattle.std.proofs.lemmas.Bool.{and_parts, and_from, cases_eq, lt-ltb, ltb-true, eqb-true, eq-eqb}
use Rattle.words.specs.Bits.{bit}
use Rattle.words.specs.Order.{earlier, before}
use Rattle.words.proofs.Listed.{within_both, earlier_front, earlier_no_front, earlier_same_front}
use Rattle.words.proofs.WordOrder.{earlier_irreflexive, before_irreflexive, before_asym}
use Rattle.tables.specs.Grid.{Grid, Proper, turned, shared_slots, common_slots, common_members}
use Rattle.tables.specs.Crews.{is_crew, manned, all_words, crew_words, crews}
use Rattle.tables.specs.Biclique.{HasAll}
use Rattle.tables.specs.Walk.{Increasing, crew_before, ListsTheCrews}
use Rattle.tables.proofs.Closure.{shared_slots_below, shared_slots_tells, galois, common_is_shared, common_bounds, common_members_tells}
use Rattle.tables.proofs.Listed.{has_first, has_map, kept_passes, has_kept, increasing_kept, increasing_map, increasing_append, increasing_once, increasing_same}

-- ---- what makes a crew

-- x is the member word of a crew: some member, some shared slot, and every member who has all shared slots is in it
pub record Manned (g : Grid) (x : ℕ) : Type 0 where
  pub some_member : 0 < x
  pub members_only : x < 2 ^ g.members
  pub some_slot : 0 < shared_slots g x
  pub closed : (i : ℕ) → i < g.members → HasAll g (shared_slots g x) i → bit x i ≡ true

-- the shared slots of members in the grid: x is what its shared slots have in common where nobody else has them all
closed_same : (g : Grid) (x : ℕ) → Manned g x → x ≡ shared_slots (turned g) (shared_slots g x)
closed_same g x m =
    let y = shared_slots g x in
    within_both g.members x (shared_slots (turned g) y) m.members_only (shared_slots_below (turned g) y)
    ((galois g x y m.members_only (shared_slots_below g x)).0 (λ j e. e))
    (λ i e. let both = (shared_slots_tells (turned g) y i (shared_slots_below g x)).0 e in m.closed i both.0 both.1)

pub crew_manned : (g : Grid) (x y : ℕ) → is_crew g x y ≡ true → Manned g x × (y ≡ shared_slots g x)
unfolding is_crew
crew_manned g x y h =
    let outer = and_parts (ltb 0 x && ltb 0 y) (eqb y (common_slots g x) && eqb x (common_members g y)) h in
    let some = and_parts (ltb 0 x) (ltb 0 y) outer.0 in
    let same = and_parts (eqb y (common_slots g x)) (eqb x (common_members g y)) outer.1 in
    let y-is : y ≡ common_slots g x = eqb-true y (common_slots g x) same.0 in
    let x-is : x ≡ common_members g y = eqb-true x (common_members g y) same.1 in
    let some-y : 0 < y = ltb-true 0 y some.1 in
    let bounds = common_bounds g x (subst (λ z. 0 < z) y-is some-y) in
    let y-shared : y ≡ shared_slots g x = y-is ∙ common_is_shared g x bounds.0 bounds.1 in
    let y-below : y < 2 ^ g.slots = subst (λ z. z < 2 ^ g.slots) (sym y-shared) (shared_slots_below g x) in (
      record {
        some_member = bounds.0;
        members_only = bounds.1;
        some_slot = subst (λ z. 0 < z) y-shared some-y;
        closed = λ i l f. subst (λ z. bit z i ≡ true) (sym x-is) ((common_members_tells g y i some-y y-below).1 (l, subst (λ z. HasAll g z i) (sym y-shared) f));
      },
      y-shared,
    )

pub manned_crew : (g : Grid) (x : ℕ) → Manned g x → is_crew g x (shared_slots g x) ≡ true
unfolding is_crew
manned_crew g x m =
    let y = shared_slots g x in
    and_from (ltb 0 x && ltb 0 y) (eqb y (common_slots g x) && eqb x (common_members g y))
    (and_from (ltb 0 x) (ltb 0 y) (lt-ltb 0 x m.some_member) (lt-ltb 0 y m.some_slot))
    (and_from (eqb y (common_slots g x)) (eqb x (common_members g y))
    (eq-eqb y (common_slots g x) (sym (common_is_shared g x m.some_member m.members_only)))
    (eq-eqb x (common_members g y) (closed_same g x m ∙ sym (common_is_shared (turned g) y m.some_slot (shared_slots_below g x)))))

pub manned_tells : (g : Grid) (x : ℕ) → Decides (manned g x) (Manned g x)
unfolding manned
manned_tells g x = (
  λ h. (crew_manned g x (common_slots g x) h).0,
  λ m. subst (λ y. is_crew g x y ≡ true) (sym (common_is_shared g x m.some_member m.members_only)) (manned_crew g x m),
)

-- the test by the shared slots, which are those of every word of members
pub manned_shared : (g : Grid) (x : ℕ) → manned g x ≡ is_crew g x (shared_slots g x)
manned_shared g x = same_from_decides (manned g x) (is_crew g x (shared_slots g x)) (manned_tells g x) (λ h. (crew_manned g x (shared_slots g x) h).0, manned_crew g x)

pub crew_slots : (g : Grid) (x y : ℕ) → is_crew g x y ≡ true → y ≡ common_slots g x
crew_slots g x y h = let m = crew_manned g x y h in m.1 ∙ sym (common_is_shared g x m.0.some_member m.0.members_only)

pub crew_is_manned : (g : Grid) (x y : ℕ) → is_crew g x y ≡ true → manned g x ≡ true
crew_is_manned g x y h = (manned_tells g x).1 (crew_manned g x y h).0

pub manned_is_crew : (g : Grid) (x : ℕ) → manned g x ≡ true → is_crew g x (common_slots g x) ≡ true
unfolding manned
manned_is_crew g x h = h

-- two crews with the same members are the same crew
pub crews_same : (g : Grid) (x y z : ℕ) → is_crew g x y ≡ true → is_crew g x z ≡ true → y ≡ z
crews_same g x y z h k = crew_slots g x y h ∙ sym (crew_slots g x z k)

-- ---- all words

odd_below : (n w : ℕ) → w < 2 ^ n → 1 + 2 * w < 2 ^ suc n
odd_below n w h = omega arith

even_below : (n w : ℕ) → w < 2 ^ n → 2 * w < 2 ^ suc n
even_below n w h = omega arith

pub all_words_below : (n : ℕ) → AllByRecursion (λ w. w < 2 ^ n) (all_words n)
unfolding all_words
all_words_below zero = (omega arith, tt)
all_words_below (suc n) =
    All-append (λ w. w < 2 ^ suc n) (map (λ w. 1 + 2 * w) (all_words n)) (map (λ w. 2 * w) (all_words n))
    (All-map (λ w. w < 2 ^ suc n) (λ w. 1 + 2 * w) (all_words n) (All-weaker (λ w. w < 2 ^ n) (λ w. 1 + 2 * w < 2 ^ suc n) (odd_below n) (all_words n) (all_words_below n)))
    (All-map (λ w. w < 2 ^ suc n) (λ w. 2 * w) (all_words n) (All-weaker (λ w. w < 2 ^ n) (λ w. 2 * w < 2 ^ suc n) (even_below n) (all_words n) (all_words_below n)))

pub has_all_words : (n w : ℕ) → w < 2 ^ n → ContainsAt (all_words n) w
unfolding all_words
has_all_words zero w h = subst (λ z. ContainsAt (0 ∷ []) z) (omega arith) (has_first 0 [])
has_all_words (suc n) w h =
    let there : ContainsAt (all_words n) (w / 2) = has_all_words n (w / 2) (omega arith) in
    ⊎_elim
    (λ e. has_append_right (map (λ w. 1 + 2 * w) (all_words n)) (map (λ w. 2 * w) (all_words n)) w (subst (λ z. ContainsAt (map (λ w. 2 * w) (all_words n)) z) (omega arith) (has_map (λ w. 2 * w) (w / 2) (all_words n) there)))
    (λ e. has_append_left (map (λ w. 1 + 2 * w) (all_words n)) (map (λ w. 2 * w) (all_words n)) w (subst (λ z. ContainsAt (map (λ w. 1 + 2 * w) (all_words n)) z) (omega arith) (has_map (λ w. 1 + 2 * w) (w / 2) (all_words n) there)))
    (cases_eq (w % 2) 0)

-- every word with number 0 is earlier than every word without
front_first : (k : ℕ) (xs ys : List ℕ) → AllByRecursion (λ x. AllByRecursion (λ y. earlier (suc k) x y ≡ true) (map (λ w. 2 * w) ys)) (map (λ w. 1 + 2 * w) xs)
front_first k [] ys = tt
front_first k (x ∷ xs) ys = (each ys, front_first k xs ys)
  where
    each : (ys : List ℕ) → AllByRecursion (λ y. earlier (suc k) (1 + 2 * x) y ≡ true) (map (λ w. 2 * w) ys)
    each [] = tt
    each (y ∷ ys) = (earlier_front k x y, each ys)

pub all_words_increasing : (n k : ℕ) → n ≤ k → Increasing (earlier k) (all_words n)
unfolding all_words
all_words_increasing zero k l = (tt, tt)
all_words_increasing (suc n) zero l = absurd (omega arith)
all_words_increasing (suc n) (suc k) l =
    let rest = all_words_increasing n k (le_of_suc-le-suc l) in
    increasing_append (earlier (suc k)) (map (λ w. 1 + 2 * w) (all_words n)) (map (λ w. 2 * w) (all_words n))
    (increasing_map (earlier (suc k)) (earlier k) (λ w. 1 + 2 * w) (λ a b. earlier_same_front k 1 a b (omega arith)) (all_words n) rest)
    (increasing_map (earlier (suc k)) (earlier k) (λ w. 2 * w) (earlier_no_front k) (all_words n) rest)
    (front_first k (all_words n) (all_words n))

pub all_words_once : (n i j d : ℕ) → i < length (all_words n) → j < length (all_words n) → get_or (all_words n) i d ≡ get_or (all_words n) j d → i ≡ j
all_words_once n = increasing_once (earlier n) (earlier_irreflexive n) (all_words n) (all_words_increasing n n (omega arith))

-- ---- the crews, listed

pub crew_words_increasing : (g : Grid) → Proper g → Increasing before (crew_words g)
unfolding crew_words before
crew_words_increasing g proper = increasing_kept (earlier 64) (manned g) (all_words g.members) (all_words_increasing g.members 64 proper.members_fit)

pub has_crew_words : (g : Grid) (x : ℕ) → manned g x ≡ true → ContainsAt (crew_words g) x
unfolding crew_words
has_crew_words g x h = has_kept (manned g) x (all_words g.members) (has_all_words g.members x ((manned_tells g x).0 h).members_only) h

pub crew_words_only : (g : Grid) → AllByRecursion (λ x. manned g x ≡ true) (crew_words g)
unfolding crew_words
crew_words_only g = kept_passes (manned g) (all_words g.members)

pub crews_increasing : (g : Grid) → Proper g → Increasing crew_before (crews g)
unfolding crews
crews_increasing g proper = increasing_map crew_before before (λ x. (x, common_slots g x)) (λ a b. refl) (crew_words g) (crew_words_increasing g proper)

pub crews_have : (g : Grid) (x y : ℕ) → is_crew g x y ≡ true → ContainsAt (crews g) (x, y)
unfolding crews
crews_have g x y h =
    subst (λ z. ContainsAt (crews g) (x, z)) (sym (crew_slots g x y h)) (has_map (λ x. (x, common_slots g x)) x (crew_words g) (has_crew_words g x (crew_is_manned g x y h)))

pub crews_only : (g : Grid) → AllByRecursion (λ c. is_crew g c.0 c.1 ≡ true) (crews g)
unfolding crews
crews_only g =
    All-map (λ c. is_crew g c.0 c.1 ≡ true) (λ x. (x, common_slots g x)) (crew_words g)
    (All-weaker (λ x. manned g x ≡ true) (λ x. is_crew g x (common_slots g x) ≡ true) (manned_is_crew g) (crew_words g) (crew_words_only g))

pub crews_listed : (g : Grid) → Proper g → ListsTheCrews g (crews g)
crews_listed g proper = record {
  increasing = crews_increasing g proper;
  each_once = increasing_once crew_before (λ c. before_irreflexive c.0) (crews g) (crews_increasing g proper);
  every_crew = crews_have g;
  only_crews = λ x y h. all-has (λ c. is_crew g c.0 c.1 ≡ true) (crews g) (x, y) (crews_only g) h;
}

-- there is one list of the crews
pub listed_same : (g : Grid) (l m : List (ℕ × ℕ)) → ListsTheCrews g l → ListsTheCrews g m → l ≡ m
listed_same g l m hl hm =
    increasing_same crew_before (λ c. before_irreflexive c.0) (λ c d. before_asym c.0 d.0) l m hl.increasing hm.increasing
    (λ c h. hm.every_crew c.0 c.1 (hl.only_crews c.0 c.1 h))
    (λ c h. hl.every_crew c.0 c.1 (hm.only_crews c.0 c.1 h))
