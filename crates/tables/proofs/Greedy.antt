-- The pass that takes members in one after the other gives the first crew of those that hold, of the numbers up to i, given ones.
-- Assumes nothing.
use Rattle.std.proofs.Common.{◌≡◌, ℕ, zero, suc, ◌^◌, ◌<◌, ◌≤◌, Bool, true, false, not, ◌&&◌, ◌||◌, eqb, ltb, ◌⊎◌, Decides, sym, refl, ap, ◌∙◌, subst, ap₂, inl, inr, ⊎_elim, lt_of_lt_of_le, arith, pow_mono}
use lib.Bits.{bit_and, bit_or}
use Rattle.std.proofs.lemmas.Bool.Decides.{Decides-and, Decides-ltb, Decides-like, same_from_decides}
use Rattle.std.proofs.lemmas.Bool.{both_ways, cases_Bool, cases_eq, cases_lt, eqb-true, eq-eqb, ne_eqb, and_from, or_left, or_right, or_from, not_from_true, not_from_false, cond-true, cond-false, cond_both, lt-ltb, le-ltb}
use Rattle.words.specs.Bits.{bit, every}
use Rattle.words.specs.Order.{Before, before}
use Rattle.words.proofs.Bits.{bit_zero, bit_high, bits_same, bit-and}
use Rattle.words.proofs.Listed.{Within, every_tells, within_left, within_right, within_some, and_below, held_below, with_below, with_number, with_other}
use Rattle.words.proofs.WordOrder.{before_tells, before_irreflexive, before_asym}
use Rattle.tables.specs.Grid.{Grid, Proper, slot_word, shared_slots}
use Rattle.tables.specs.Crews.{is_crew}
use Rattle.tables.specs.Biclique.{HasAll}
use Rattle.tables.specs.Walk.{Alike, closed_below, fits, tried, pass}
use Rattle.tables.proofs.Closure.{slot_word_holds, has_all_tells, has_all_part, shared_slots_below, shared_slots_part, shared_slots_more, member_has_all}
use Rattle.tables.proofs.Crews.{Manned, crew_manned, manned_crew}

-- ---- what fits

not_unless : {Q : Type 0} (a b : Bool) → Decides b Q → Decides (a || not b) (Q → a ≡ true)
not_unless true b d = (λ _ _. refl, λ _. refl)
not_unless false true d = (λ h _. h, λ f. f (d.0 refl))
not_unless false false d = (λ _ q. d.1 q, λ _. refl)

pub closed_below_tells : (g : Grid) → Proper g → (n k p y : ℕ) → y < 2 ^ n → Decides (closed_below g k p y) ((i : ℕ) → i < k → HasAll g y i → bit p i ≡ true)
unfolding closed_below
closed_below_tells g proper n k p y h =
    Decides-like (every (λ i. bit p i || not (eqb (bit_and y (slot_word g i)) y)) k)
    (λ f i l. (not_unless (bit p i) (eqb (bit_and y (slot_word g i)) y) (has_all_tells g proper n y i h)).0 (f i l))
    (λ f i l. (not_unless (bit p i) (eqb (bit_and y (slot_word g i)) y) (has_all_tells g proper n y i h)).1 (f i l))
    (every_tells (λ i. bit p i || not (eqb (bit_and y (slot_word g i)) y)) k)

-- the test goes on at a number that is in p, or has not all slots of y
pub closed_below_more : (g : Grid) (k p y : ℕ) → closed_below g k p y ≡ true → (bit p k ≡ true) ⊎ (bit_and y (slot_word g k) ≡ y → ⊥) → closed_below g (suc k) p y ≡ true
unfolding closed_below every
closed_below_more g k p y h told =
    and_from (bit p k || not (eqb (bit_and y (slot_word g k)) y)) (closed_below g k p y)
    (⊎_elim (λ e. or_left (bit p k) (not (eqb (bit_and y (slot_word g k)) y)) e) (λ f. or_right (bit p k) (not (eqb (bit_and y (slot_word g k)) y)) (not_from_false (eqb (bit_and y (slot_word g k)) y) (ne_eqb (bit_and y (slot_word g k)) y f))) told) h

-- and fails at any other
pub closed_below_fails : (g : Grid) (n k p y : ℕ) → k < n → bit p k ≡ false → bit_and y (slot_word g k) ≡ y → closed_below g n p y ≡ false
unfolding closed_below
closed_below_fails g n k p y l lacks has =
    ⊎_elim
    (λ t. absurd (both_ways (bit p k || not (eqb (bit_and y (slot_word g k)) y)) (or_from (bit p k) (not (eqb (bit_and y (slot_word g k)) y)) lacks (not_from_true (eqb (bit_and y (slot_word g k)) y) (eq-eqb (bit_and y (slot_word g k)) y has))) ((every_tells (λ i. bit p i || not (eqb (bit_and y (slot_word g i)) y)) n).0 t k l)))
    (λ t. t) (cases_Bool (closed_below g n p y))

-- members x with their shared slots y are a crew where neither is empty and nobody else has all of y
pub crew_by_closed : (g : Grid) → Proper g → (x y : ℕ) → x < 2 ^ g.members → y ≡ shared_slots g x → is_crew g x y ≡ ((ltb 0 x && ltb 0 y) && closed_below g g.members x y)
crew_by_closed g proper x y h e =
    let yh : y < 2 ^ g.slots = subst (λ v. v < 2 ^ g.slots) (sym e) (shared_slots_below g x) in
    let told = closed_below_tells g proper g.slots g.members x y yh in
    same_from_decides (is_crew g x y) ((ltb 0 x && ltb 0 y) && closed_below g g.members x y) (
      λ c. let m = (crew_manned g x y c).0 in ((m.some_member, subst (λ v. 0 < v) (sym e) m.some_slot), λ i l a. m.closed i l (subst (λ v. HasAll g v i) e a)),
      λ f. subst (λ v. is_crew g x v ≡ true) (sym e) (manned_crew g x (record {
        some_member = f.0.0;
        members_only = h;
        some_slot = subst (λ v. 0 < v) e f.0.1;
        closed = λ i l a. f.1 i l (subst (λ v. HasAll g v i) (sym e) a);
      })),
    )
    (Decides-and (ltb 0 x && ltb 0 y) (closed_below g g.members x y) (Decides-and (ltb 0 x) (ltb 0 y) (Decides-ltb 0 x) (Decides-ltb 0 y)) told)

pub fits_tells : (g : Grid) → Proper g → (n i p y : ℕ) → y < 2 ^ n → Decides (fits g i p y) ((0 < y) × ((k : ℕ) → k < suc i → HasAll g y k → bit p k ≡ true))
unfolding fits
fits_tells g proper n i p y h = Decides-and (ltb 0 y) (closed_below g (suc i) p y) (Decides-ltb 0 y) (closed_below_tells g proper n (suc i) p y h)

-- what fits still fits with more slots
pub fits_more : (g : Grid) → Proper g → (n i p a b : ℕ) → a < 2 ^ n → b < 2 ^ n → Within a b → fits g i p a ≡ true → fits g i p b ≡ true
fits_more g proper n i p a b ha hb f e =
    let fact = (fits_tells g proper n i p a ha).0 e in
    (fits_tells g proper n i p b hb).1 (within_some n a b ha f fact.0, λ k l h. fact.1 k l (has_all_part g a b k f h))

-- members of a crew that holds, of the numbers up to i, those of p: their slots fit
pub crew_fits : (g : Grid) → Proper g → (n i p z y : ℕ) → i < g.members → y < 2 ^ n → Manned g z → Alike (suc i) z p → Within (shared_slots g z) y → fits g i p y ≡ true
crew_fits g proper n i p z y l h m a f =
    (fits_tells g proper n i p y h).1 (
      within_some g.slots (shared_slots g z) y (shared_slots_below g z) f m.some_slot,
      λ k lk hk. sym (a k lk) ∙ m.closed k (omega arith) (has_all_part g (shared_slots g z) y k f hk),
    )

-- ---- the pass

-- where the pass stands before number k: members x with their shared slots y. Every number that was passed over would not fit now
-- either, and no crew of those sought is ahead of x on the numbers below k
pub record Greedy (g : Grid) (i p k x y : ℕ) : Type 0 where
  pub slots_are : y ≡ shared_slots g x
  pub below : x < 2 ^ k
  pub alike : Alike (suc i) x p
  pub fit : fits g i p y ≡ true
  pub skipped : (m : ℕ) → i < m → m < k → bit x m ≡ false → fits g i p (bit_and y (slot_word g m)) ≡ false
  pub leads : (z : ℕ) → Manned g z → Alike (suc i) z p → Alike k z x ⊎ ((b : Before x z) × (b.at < k))

pub greedy_start : (g : Grid) (i p : ℕ) → p < 2 ^ i → fits g i p (shared_slots g p) ≡ true → Greedy g i p (suc i) p (shared_slots g p)
greedy_start g i p h e = record {
  slots_are = refl;
  below = lt_of_lt_of_le h (pow_mono (omega arith));
  alike = λ k l. refl;
  fit = e;
  skipped = λ m a b. absurd (omega arith);
  leads = λ z m a. inl a;
}

module _ (g : Grid) (proper : Proper g) (i p k x y : ℕ) (l : i < k) (s : Greedy g i p k x y) where
  slots_below : y < 2 ^ g.slots
  slots_below = subst (λ v. v < 2 ^ g.slots) (sym s.slots_are) (shared_slots_below g x)

  with_row : (m : ℕ) → bit_and y (slot_word g m) < 2 ^ g.slots
  with_row m = and_below g.slots y (slot_word g m) slots_below

  -- number k is taken in
  module _ (lk : k < g.members) where
    taken_skipped : (m : ℕ) → i < m → m < suc k → bit (bit_or x (2 ^ k)) m ≡ false → fits g i p (bit_and (bit_and y (slot_word g k)) (slot_word g m)) ≡ false
    taken_skipped m a b e =
        let other : m ≡ k → ⊥ = λ q. both_ways (bit (bit_or x (2 ^ k)) k) (subst (λ v. bit (bit_or x (2 ^ k)) v ≡ false) q e) (with_number x k) in
        let old : fits g i p (bit_and y (slot_word g m)) ≡ false = s.skipped m a (omega arith) (sym (with_other x k m other) ∙ e) in
        let less = bit_and (bit_and y (slot_word g k)) (slot_word g m) in
        let part : Within less (bit_and y (slot_word g m)) = λ j h. bit-and y (slot_word g m) j ∙ ap₂ ◌&&◌ (within_left y (slot_word g k) j (within_left (bit_and y (slot_word g k)) (slot_word g m) j h)) (within_right (bit_and y (slot_word g k)) (slot_word g m) j h) in
        ⊎_elim (λ t. absurd (both_ways (fits g i p (bit_and y (slot_word g m))) old (fits_more g proper g.slots i p less (bit_and y (slot_word g m)) (and_below g.slots (bit_and y (slot_word g k)) (slot_word g m) (with_row k)) (with_row m) part t)))
        (λ t. t) (cases_Bool (fits g i p less))

    taken_leads : (z : ℕ) → Manned g z → Alike (suc i) z p → Alike (suc k) z (bit_or x (2 ^ k)) ⊎ ((b : Before (bit_or x (2 ^ k)) z) × (b.at < suc k))
    taken_leads z m a =
        ⊎_elim (λ same. ⊎_elim (λ has. inl (agree same has)) (λ lacks. inr (record { at = k; held = with_number x k; lacked = lacks; alike = λ j lj. with_other x k j (λ q. omega arith) ∙ sym (same j lj) }, omega arith)) (cases_Bool (bit z k)))
        (λ b. inr (
          record {
            at = b.0.at;
            held = with_other x k b.0.at (λ q. let h = b.1 in omega arith) ∙ b.0.held;
            lacked = b.0.lacked;
            alike = λ j lj. with_other x k j (λ q. let h = b.1 in omega arith) ∙ b.0.alike j lj;
          },
          let h = b.1 in omega arith,
        ))
        (s.leads z m a)
      where
        agree : Alike k z x → bit z k ≡ true → Alike (suc k) z (bit_or x (2 ^ k))
        agree same has j lj =
            ⊎_elim (λ q. subst (λ v. bit z v ≡ bit (bit_or x (2 ^ k)) v) (sym q) (has ∙ sym (with_number x k))) (λ q. same j (omega arith) ∙ sym (with_other x k j q)) (cases_eq j k)

    pub greedy_taken : fits g i p (bit_and y (slot_word g k)) ≡ true → Greedy g i p (suc k) (bit_or x (2 ^ k)) (bit_and y (slot_word g k))
    greedy_taken e = record {
      slots_are = ap (λ v. bit_and v (slot_word g k)) s.slots_are ∙ sym (shared_slots_more g proper x k lk);
      below = with_below x k (suc k) (lt_of_lt_of_le s.below (pow_mono (omega arith))) (omega arith);
      alike = λ j lj. with_other x k j (λ q. omega arith) ∙ s.alike j lj;
      fit = e;
      skipped = taken_skipped;
      leads = taken_leads;
    }

    -- number k is passed over
    skipped_leads : fits g i p (bit_and y (slot_word g k)) ≡ false → (z : ℕ) → Manned g z → Alike (suc i) z p → Alike (suc k) z x ⊎ ((b : Before x z) × (b.at < suc k))
    skipped_leads e z m a =
        ⊎_elim (λ same. ⊎_elim (λ has. absurd (both_ways (fits g i p (bit_and y (slot_word g k))) e (crew_fits g proper g.slots i p z (bit_and y (slot_word g k)) (omega arith) (with_row k) m a (part same has)))) (λ lacks. inl (agree same lacks)) (cases_Bool (bit z k)))
        (λ b. inr (b.0, let h = b.1 in omega arith))
        (s.leads z m a)
      where
        agree : Alike k z x → bit z k ≡ false → Alike (suc k) z x
        agree same lacks j lj =
            ⊎_elim (λ q. subst (λ v. bit z v ≡ bit x v) (sym q) (lacks ∙ sym (bit_high x k k s.below (omega arith)))) (λ q. same j (omega arith)) (cases_eq j k)

        part : Alike k z x → bit z k ≡ true → Within (shared_slots g z) (bit_and y (slot_word g k))
        part same has j h =
            bit-and y (slot_word g k) j
            ∙ ap₂ ◌&&◌ (subst (λ v. bit v j ≡ true) (sym s.slots_are) (shared_slots_part g x z (λ n b. same n (held_below k x n s.below b) ∙ b) j h)) (slot_word_holds g proper k j ∙ member_has_all g z k m.members_only has j h)

    pub greedy_skipped : fits g i p (bit_and y (slot_word g k)) ≡ false → Greedy g i p (suc k) x y
    greedy_skipped e = record {
      slots_are = s.slots_are;
      below = lt_of_lt_of_le s.below (pow_mono (omega arith));
      alike = s.alike;
      fit = s.fit;
      skipped = λ m a b h. ⊎_elim (λ q. subst (λ v. fits g i p (bit_and y (slot_word g v)) ≡ false) (sym q) e) (λ q. s.skipped m a (omega arith) h) (cases_eq m k);
      leads = skipped_leads e;
    }

-- ---- the end of the pass

module _ (g : Grid) (proper : Proper g) (i p x y : ℕ) (l : i < g.members) (s : Greedy g i p g.members x y) where
  end_below : y < 2 ^ g.slots
  end_below = subst (λ v. v < 2 ^ g.slots) (sym s.slots_are) (shared_slots_below g x)

  end_fit : (0 < y) × ((k : ℕ) → k < suc i → HasAll g y k → bit p k ≡ true)
  end_fit = (fits_tells g proper g.slots i p y end_below).0 s.fit

  -- who has all slots of y is in x: a number up to i is in p, and one above i would have been taken in
  end_closed : (k : ℕ) → k < g.members → HasAll g y k → bit x k ≡ true
  end_closed k lk h =
      ⊎_elim (λ t. t)
      (λ t. ⊎_elim (λ low. s.alike k low ∙ end_fit.1 k low h)
      (λ high. absurd (both_ways (fits g i p (bit_and y (slot_word g k))) (s.skipped k high lk t) (subst (λ v. fits g i p v ≡ true) (sym (eqb-true (bit_and y (slot_word g k)) y ((has_all_tells g proper g.slots y k end_below).1 h))) s.fit)))
      (cases_lt k (suc i)))
      (cases_Bool (bit x k))

  -- what the pass comes to is a crew, if it has any member
  pub greedy_crew : 0 < x → is_crew g x y ≡ true
  greedy_crew some =
      subst (λ v. is_crew g x v ≡ true) (sym s.slots_are) (manned_crew g x (record {
        some_member = some;
        members_only = s.below;
        some_slot = subst (λ v. 0 < v) s.slots_are end_fit.0;
        closed = λ k lk h. end_closed k lk (subst (λ v. HasAll g v k) (sym s.slots_are) h);
      }))

  word_below : (z : ℕ) → z < 2 ^ g.members → z < 2 ^ 64
  word_below z h = lt_of_lt_of_le h (pow_mono proper.members_fit)

  -- and no crew of those sought is before it
  pub greedy_first : (z : ℕ) → Manned g z → Alike (suc i) z p → before z x ≡ false
  greedy_first z m a =
      ⊎_elim (λ same. subst (λ v. before v x ≡ false) (sym (bits_same g.members z x m.members_only s.below same)) (before_irreflexive x))
      (λ b. before_asym x z ((before_tells x z (word_below x s.below) (word_below z m.members_only)).1 b.0))
      (s.leads z m a)

  -- if it has no member, there is no such crew
  pub greedy_none : x ≡ 0 → (z : ℕ) → Manned g z → Alike (suc i) z p → ⊥
  greedy_none e z m a =
      ⊎_elim (λ same. let q : z ≡ x = bits_same g.members z x m.members_only s.below same in let h = m.some_member in omega arith)
      (λ b. both_ways (bit 0 b.0.at) (bit_zero b.0.at) (subst (λ v. bit v b.0.at ≡ true) e b.0.held))
      (s.leads z m a)

-- where the shared slots of p do not fit, there is no such crew either
pub unfit_none : (g : Grid) → Proper g → (i p : ℕ) → i < g.members → p < 2 ^ i → fits g i p (shared_slots g p) ≡ false → (z : ℕ) → Manned g z → Alike (suc i) z p → ⊥
unfit_none g proper i p l h e z m a =
    both_ways (fits g i p (shared_slots g p)) e
    (crew_fits g proper g.slots i p z (shared_slots g p) l (shared_slots_below g p) m a
    (shared_slots_part g p z (λ j b. let lj : j < i = held_below i p j h b in a j (omega arith) ∙ b)))

-- ---- the pass as a function

pub tried_taken : (g : Grid) (i p k x y : ℕ) → fits g i p (bit_and y (slot_word g k)) ≡ true → tried g i p k (x, y) ≡ (bit_or x (2 ^ k), bit_and y (slot_word g k))
unfolding tried
tried_taken g i p k x y e = cond-true (fits g i p (bit_and y (slot_word g k))) (bit_or x (2 ^ k), bit_and y (slot_word g k)) (x, y) e

pub tried_skipped : (g : Grid) (i p k x y : ℕ) → fits g i p (bit_and y (slot_word g k)) ≡ false → tried g i p k (x, y) ≡ (x, y)
unfolding tried
tried_skipped g i p k x y e = cond-false (fits g i p (bit_and y (slot_word g k))) (bit_or x (2 ^ k), bit_and y (slot_word g k)) (x, y) e

pub pass_start : (g : Grid) (i p k : ℕ) → k ≤ suc i → pass g i p k ≡ (p, shared_slots g p)
unfolding pass
pass_start g i p zero l = refl
pass_start g i p (suc k) l = cond-false (ltb i k) (tried g i p k (pass g i p k)) (pass g i p k) (le-ltb i k (omega arith)) ∙ pass_start g i p k (omega arith)

pub pass_more : (g : Grid) (i p k : ℕ) → i < k → pass g i p (suc k) ≡ tried g i p k (pass g i p k)
unfolding pass
pass_more g i p k l = cond-true (ltb i k) (tried g i p k (pass g i p k)) (pass g i p k) (lt-ltb i k l)

greedy_tried : (g : Grid) → Proper g → (i p k x y : ℕ) → i < k → k < g.members → Greedy g i p k x y → Greedy g i p (suc k) (tried g i p k (x, y)).0 (tried g i p k (x, y)).1
greedy_tried g proper i p k x y l lk s =
    ⊎_elim (λ e. subst (λ (c : ℕ × ℕ). Greedy g i p (suc k) c.0 c.1) (sym (tried_taken g i p k x y e)) (greedy_taken g proper i p k x y l s lk e))
    (λ e. subst (λ (c : ℕ × ℕ). Greedy g i p (suc k) c.0 c.1) (sym (tried_skipped g i p k x y e)) (greedy_skipped g proper i p k x y l s lk e))
    (cases_Bool (fits g i p (bit_and y (slot_word g k))))

pub pass_greedy : (g : Grid) → Proper g → (i p k : ℕ) → p < 2 ^ i → fits g i p (shared_slots g p) ≡ true → i < k → k ≤ g.members → Greedy g i p k (pass g i p k).0 (pass g i p k).1
pass_greedy g proper i p zero h e l lk = absurd (omega arith)
pass_greedy g proper i p (suc k) h e l lk =
    ⊎_elim
    (λ q. subst (λ (c : ℕ × ℕ). Greedy g i p (suc k) c.0 c.1) (sym (pass_start g i p (suc k) (omega arith))) (subst (λ m. Greedy g i p m p (shared_slots g p)) (omega arith) (greedy_start g i p h e)))
    (λ q. subst (λ (c : ℕ × ℕ). Greedy g i p (suc k) c.0 c.1) (sym (pass_more g i p k (omega arith))) (greedy_tried g proper i p k (pass g i p k).0 (pass g i p k).1 (omega arith) (omega arith) (pass_greedy g proper i p k h e (omega arith) (omega arith))))
    (cases_eq k i)

-- where the shared slots of p do not fit, nothing is taken in
pub pass_unfit : (g : Grid) → Proper g → (i p k : ℕ) → fits g i p (shared_slots g p) ≡ false → pass g i p k ≡ (p, shared_slots g p)
unfolding pass
pass_unfit g proper i p zero e = refl
pass_unfit g proper i p (suc k) e =
    let Earlier-on = pass_unfit g proper i p k e in
    let y = shared_slots g p in
    let unfit : fits g i p (bit_and y (slot_word g k)) ≡ false =
    ⊎_elim (λ t. absurd (both_ways (fits g i p y) e (fits_more g proper g.slots i p (bit_and y (slot_word g k)) y (and_below g.slots y (slot_word g k) (shared_slots_below g p)) (shared_slots_below g p) (within_left y (slot_word g k)) t))) (λ t. t) (cases_Bool (fits g i p (bit_and y (slot_word g k)))) in
    cond_both (ltb i k) (tried g i p k (pass g i p k)) (pass g i p k) (λ s. s ≡ (p, y)) (λ _. ap (tried g i p k) Earlier-on ∙ tried_skipped g i p k p y unfit) (λ _. Earlier-on)
