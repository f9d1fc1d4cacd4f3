-- The slots that members share, and the members that slots share. Assumes nothing.
use Rattle.std.proofs.Common.{◌≡◌, ℕ, suc, ◌-◌, ◌%◌, ◌^◌, ◌<◌, ◌≤◌, Bool, true, false, cond, not, ◌&&◌, ◌||◌, eqb, ltb, ◌⊎◌, Decides, sym, refl, ap, ◌∙◌, inl, inr, ⊎_elim, arith, pow_pos}
use lib.Bits.{bit_and, bit_or}
use lib.Pow.{ones_lt}
use Rattle.std.proofs.lemmas.Bool.Decides.{nat_tests, Decides-like}
use Rattle.std.proofs.lemmas.Bool.{and_parts, and_from, cases_Bool, cases_lt, cases_eq, or_left, both_ways, lt-ltb, ltb-true, cond-true, cond-false}
use Rattle.words.specs.Bits.{bit, every}
use Rattle.words.proofs.Bits.{bit_zero, bits_same, bit-and, bit-or, bit_gather, gather_below}
use Rattle.words.proofs.Listed.{Within, every_tells, same_tests, within_both, within_tells, and_below, held_below, bit_ones, with_number, with_other, cut_more, cut_same}
use Rattle.tables.specs.Grid.{Grid, Proper, turned, slot_word, shared, shared_slots, common_slots, common_members}
use Rattle.tables.specs.Biclique.{HasAll}

-- ---- the slots of a member

pub bit_slot_word : (g : Grid) (i j : ℕ) → bit (slot_word g i) j ≡ (ltb j g.slots && g.marked i j)
unfolding slot_word
bit_slot_word g i j = bit_gather (λ j. g.marked i j) g.slots j

pub slot_word_below : (g : Grid) (i : ℕ) → slot_word g i < 2 ^ g.slots
unfolding slot_word
slot_word_below g i = gather_below (λ j. g.marked i j) g.slots

pub slot_word_holds : (g : Grid) → Proper g → (i j : ℕ) → bit (slot_word g i) j ≡ g.marked i j
slot_word_holds g proper i j =
    bit_slot_word g i j
    ∙ same_tests (ltb j g.slots && g.marked i j) (g.marked i j) (λ h. (and_parts (ltb j g.slots) (g.marked i j) h).1) (λ h. and_from (ltb j g.slots) (g.marked i j) (lt-ltb j g.slots (proper.inside i j h).1) h)

-- the test whether member i has all slots of word y
pub has_all_tells : (g : Grid) → Proper g → (k y i : ℕ) → y < 2 ^ k → Decides (eqb (bit_and y (slot_word g i)) y) (HasAll g y i)
has_all_tells g proper k y i h =
    Decides-like (eqb (bit_and y (slot_word g i)) y) (λ f j e. sym (slot_word_holds g proper i j) ∙ f j e) (λ f j e. slot_word_holds g proper i j ∙ f j e) (within_tells k y (slot_word g i) h)

-- who has all slots of a word has all slots of each part of it
pub has_all_part : (g : Grid) (a b i : ℕ) → Within a b → HasAll g b i → HasAll g a i
has_all_part g a b i f h j e = h j (f j e)

-- ---- the shared slots of a word of members

implied : (a b : Bool) → Decides (not a || b) (a ≡ true → b ≡ true)
implied true b = (λ h _. h, λ f. f refl)
implied false b = (λ _ h. absurd (both_ways false refl h), λ _. refl)

pub shared_tells : (g : Grid) (x j : ℕ) → Decides (shared g x j) ((i : ℕ) → i < g.members → bit x i ≡ true → g.marked i j ≡ true)
unfolding shared
shared_tells g x j =
    Decides-like (every (λ i. not (bit x i) || g.marked i j) g.members)
    (λ f i l. (implied (bit x i) (g.marked i j)).0 (f i l))
    (λ f i l. (implied (bit x i) (g.marked i j)).1 (f i l))
    (every_tells (λ i. not (bit x i) || g.marked i j) g.members)

pub bit_shared_slots : (g : Grid) (x j : ℕ) → bit (shared_slots g x) j ≡ (ltb j g.slots && shared g x j)
unfolding shared_slots
bit_shared_slots g x j = bit_gather (shared g x) g.slots j

pub shared_slots_below : (g : Grid) (x : ℕ) → shared_slots g x < 2 ^ g.slots
unfolding shared_slots
shared_slots_below g x = gather_below (shared g x) g.slots

-- slot j is a shared slot of members x where every member of x is free in it
pub shared_slots_tells : (g : Grid) (x j : ℕ) → x < 2 ^ g.members → Decides (bit (shared_slots g x) j) ((j < g.slots) × HasAll (turned g) x j)
shared_slots_tells g x j h = (
  λ e.
      let both = and_parts (ltb j g.slots) (shared g x j) (sym (bit_shared_slots g x j) ∙ e) in
      (ltb-true j g.slots both.0, λ i b. (shared_tells g x j).0 both.1 i (held_below g.members x i h b) b),
  λ f. bit_shared_slots g x j ∙ and_from (ltb j g.slots) (shared g x j) (lt-ltb j g.slots f.0) ((shared_tells g x j).1 (λ i _ b. f.1 i b)),
)

-- fewer members share more slots
pub shared_slots_part : (g : Grid) (a b : ℕ) → Within a b → Within (shared_slots g b) (shared_slots g a)
shared_slots_part g a b f j e =
    let both = and_parts (ltb j g.slots) (shared g b j) (sym (bit_shared_slots g b j) ∙ e) in
    bit_shared_slots g a j ∙ and_from (ltb j g.slots) (shared g a j) both.0 ((shared_tells g a j).1 (λ i l h. (shared_tells g b j).0 both.1 i l (f i h)))

-- a member of a word has all slots that the word shares
pub member_has_all : (g : Grid) (x i : ℕ) → x < 2 ^ g.members → bit x i ≡ true → HasAll g (shared_slots g x) i
member_has_all g x i h b j e = ((shared_slots_tells g x j h).0 e).1 i b

shared_turned : (g : Grid) (x y : ℕ) → x < 2 ^ g.members → y < 2 ^ g.slots → Within y (shared_slots g x) → Within x (shared_slots (turned g) y)
shared_turned g x y hx hy f i b =
    (shared_slots_tells (turned g) y i hy).1 (held_below g.members x i hx b, λ j e. ((shared_slots_tells g x j hx).0 (f j e)).1 i b)

-- members x share the slots y exactly where slots y share the members x
pub galois : (g : Grid) (x y : ℕ) → x < 2 ^ g.members → y < 2 ^ g.slots → (Within y (shared_slots g x) → Within x (shared_slots (turned g) y)) × (Within x (shared_slots (turned g) y) → Within y (shared_slots g x))
galois g x y hx hy = (shared_turned g x y hx hy, shared_turned (turned g) y x hy hx)

-- no members share every slot
pub shared_slots_none : (g : Grid) → shared_slots g 0 ≡ 2 ^ g.slots - 1
shared_slots_none g =
    bits_same g.slots (shared_slots g 0) (2 ^ g.slots - 1) (shared_slots_below g 0) (ones_lt g.slots) (λ j l.
    (shared_slots_tells g 0 j (pow_pos g.members)).1 (l, λ i b. absurd (both_ways (bit 0 i) (bit_zero i) b)) ∙ sym (bit_ones g.slots j ∙ lt-ltb j g.slots l))

-- one member more shares what was shared and is the member's
pub shared_slots_more : (g : Grid) → Proper g → (x i : ℕ) → i < g.members → shared_slots g (bit_or x (2 ^ i)) ≡ bit_and (shared_slots g x) (slot_word g i)
shared_slots_more g proper x i l =
    within_both g.slots (shared_slots g (bit_or x (2 ^ i))) (bit_and (shared_slots g x) (slot_word g i)) (shared_slots_below g (bit_or x (2 ^ i))) (and_below g.slots (shared_slots g x) (slot_word g i) (shared_slots_below g x)) there back
  where
    there : Within (shared_slots g (bit_or x (2 ^ i))) (bit_and (shared_slots g x) (slot_word g i))
    there j e =
        let both = and_parts (ltb j g.slots) (shared g (bit_or x (2 ^ i)) j) (sym (bit_shared_slots g (bit_or x (2 ^ i)) j) ∙ e) in
        bit-and (shared_slots g x) (slot_word g i) j
        ∙ and_from (bit (shared_slots g x) j) (bit (slot_word g i) j)
        (shared_slots_part g x (bit_or x (2 ^ i)) (λ m b. bit-or x (2 ^ i) m ∙ or_left (bit x m) (bit (2 ^ i) m) b) j e)
        (slot_word_holds g proper i j ∙ (shared_tells g (bit_or x (2 ^ i)) j).0 both.1 i l (with_number x i))

    back : Within (bit_and (shared_slots g x) (slot_word g i)) (shared_slots g (bit_or x (2 ^ i)))
    back j e =
        let parts = and_parts (bit (shared_slots g x) j) (bit (slot_word g i) j) (sym (bit-and (shared_slots g x) (slot_word g i) j) ∙ e) in
        let both = and_parts (ltb j g.slots) (shared g x j) (sym (bit_shared_slots g x j) ∙ parts.0) in
        bit_shared_slots g (bit_or x (2 ^ i)) j
        ∙ and_from (ltb j g.slots) (shared g (bit_or x (2 ^ i)) j) both.0 ((shared_tells g (bit_or x (2 ^ i)) j).1 (λ m lm b. each m lm b parts both))
      where
        each : (m : ℕ) → m < g.members → bit (bit_or x (2 ^ i)) m ≡ true → (bit (shared_slots g x) j ≡ true) × (bit (slot_word g i) j ≡ true) → (ltb j g.slots ≡ true) × (shared g x j ≡ true) → g.marked m j ≡ true
        each m lm b parts both =
            ⊎_elim (λ e. rw e (sym (slot_word_holds g proper i j) ∙ parts.1)) (λ e. (shared_tells g x j).0 both.1 m lm (sym (with_other x i m e) ∙ b)) (cases_eq m i)

-- the shared slots of a word's numbers below the next bound, from those below this one
pub shared_slots_cut : (g : Grid) → Proper g → (w i : ℕ) → i < g.members → shared_slots g (w % 2 ^ suc i) ≡ cond (bit w i) (bit_and (shared_slots g (w % 2 ^ i)) (slot_word g i)) (shared_slots g (w % 2 ^ i))
shared_slots_cut g proper w i l =
    let less = shared_slots g (w % 2 ^ i) in
    let more = bit_and less (slot_word g i) in
    ⊎_elim (λ e. ap (shared_slots g) (cut_more w i e) ∙ shared_slots_more g proper (w % 2 ^ i) i l ∙ sym (cond-true (bit w i) more less e)) (λ e. ap (shared_slots g) (cut_same w i e) ∙ sym (cond-false (bit w i) more less e)) (cases_Bool (bit w i))

-- ---- the common slots

pub common_is_shared : (g : Grid) (x : ℕ) → 0 < x → x < 2 ^ g.members → common_slots g x ≡ shared_slots g x
unfolding common_slots
common_is_shared g x some h = grind (arith, nat_tests)

-- there are no common slots of no members, nor of a word with a number that is no member
pub common_none : (g : Grid) (x : ℕ) → (x ≡ 0) ⊎ (2 ^ g.members ≤ x) → common_slots g x ≡ 0
unfolding common_slots
common_none g x h = grind (arith, nat_tests)

-- members with a common slot are members of the grid
pub common_bounds : (g : Grid) (x : ℕ) → 0 < common_slots g x → (0 < x) × (x < 2 ^ g.members)
common_bounds g x h = (
  ⊎_elim (λ l. l) (λ l. absurd (none (inl (omega arith)))) (cases_lt 0 x),
  ⊎_elim (λ l. l) (λ l. absurd (none (inr l))) (cases_lt x (2 ^ g.members)),
)
  where
    none : (x ≡ 0) ⊎ (2 ^ g.members ≤ x) → ⊥
    none e = let z : common_slots g x ≡ 0 = common_none g x e in omega arith

-- the common members of slots y are those members that have all of them
pub common_members_tells : (g : Grid) (y i : ℕ) → 0 < y → y < 2 ^ g.slots → Decides (bit (common_members g y) i) ((i < g.members) × HasAll g y i)
common_members_tells g y i some h = rw (common_is_shared (turned g) y some h) (shared_slots_tells (turned g) y i h)
