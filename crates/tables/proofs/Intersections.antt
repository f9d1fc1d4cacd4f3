-- Crews by intersection: the members of a slot are those of a crew, so is what two crews have in common, and every crew comes from its slots so.
-- Assumes nothing.
use Rattle.std.proofs.Common.{◌≡◌, ℕ, zero, suc, ◌-◌, ◌%◌, ◌^◌, ◌<◌, ◌≤◌, true, ◌&&◌, eqb, ltb, ◌⊎◌, sym, ap, ◌∙◌, subst, inl, inr, ⊎_elim, mod-eq_of_lt, arith}
use lib.Bits.{bit_and, and_comm, and_mask}
use Rattle.std.proofs.lemmas.Bool.{and_parts, and_from, both_ways, cases_Bool, cond-true, eqb-true}
use Rattle.words.specs.Bits.{bit}
use Rattle.words.proofs.Bits.{bit_zero, bit-and}
use Rattle.words.proofs.Listed.{Within, within_left, within_right, within_some, and_below, bit_cut, cut_none, cut_same}
use Rattle.tables.specs.Grid.{Grid, Proper, turned, member_word, shared_slots, common_slots, common_members}
use Rattle.tables.specs.Crews.{is_crew}
use Rattle.tables.proofs.Closure.{slot_word_below, slot_word_holds, has_all_part, shared_slots_below, shared_slots_tells, shared_slots_part, shared_slots_none, shared_slots_cut, common_is_shared}
use Rattle.tables.proofs.Crews.{Manned, crew_manned}
use Rattle.tables.proofs.Sharing.{proper_turned}

-- a word that holds a number is not empty
held_some : (w i : ℕ) → bit w i ≡ true → 0 < w
held_some zero i h = absurd (both_ways _ (bit_zero i) h)
held_some (suc w) i h = omega arith

module _ (g : Grid) (proper : Proper g) where
  -- ---- crews from slots and from crews

  -- the members of a slot that has some are those of a crew
  pub slot_manned : (j : ℕ) → j < g.slots → 0 < member_word g j → Manned g (member_word g j)
  slot_manned j within some =
      let x = member_word g j in
      let below = slot_word_below (turned g) j in
      let marks : (i : ℕ) → bit x i ≡ g.marked i j = slot_word_holds (turned g) (proper_turned g proper) j in
      let here = (shared_slots_tells g x j below).1 (within, λ i b. sym (marks i) ∙ b) in
      record {
        some_member = some;
        members_only = below;
        some_slot = held_some (shared_slots g x) j here;
        closed = λ i l f. marks i ∙ f j here;
      }

  -- what two crews have in common in members, where that is anything, are the members of a crew
  pub both_manned : (a b : ℕ) → Manned g a → Manned g b → 0 < bit_and a b → Manned g (bit_and a b)
  both_manned a b ma mb some =
      let x = bit_and a b in
      let more-a = shared_slots_part g x a (within_left a b) in
      let more-b = shared_slots_part g x b (within_right a b) in
      record {
        some_member = some;
        members_only = and_below g.members a b ma.members_only;
        some_slot = within_some g.slots (shared_slots g a) (shared_slots g x) (shared_slots_below g a) more-a ma.some_slot;
        closed = λ i l f.
            bit-and a b i
            ∙ and_from (bit a i) (bit b i) (ma.closed i l (has_all_part g (shared_slots g a) (shared_slots g x) i more-a f)) (mb.closed i l (has_all_part g (shared_slots g b) (shared_slots g x) i more-b f));
      }

  -- ---- every crew from its slots

  -- the slots of a crew, and that its members are what these share
  crew_sides : (x y : ℕ) → is_crew g x y ≡ true → (0 < x) × (0 < y) × (y < 2 ^ g.slots) × (x ≡ shared_slots (turned g) y)
  unfolding is_crew
  crew_sides x y h =
      let m = crew_manned g x y h in
      let outer = and_parts (ltb 0 x && ltb 0 y) (eqb y (common_slots g x) && eqb x (common_members g y)) h in
      let same = and_parts (eqb y (common_slots g x)) (eqb x (common_members g y)) outer.1 in
      let some : 0 < y = subst (λ z. 0 < z) (sym m.1) m.0.some_slot in
      let below : y < 2 ^ g.slots = subst (λ z. z < 2 ^ g.slots) (sym m.1) (shared_slots_below g x) in
      (m.0.some_member, some, below, eqb-true x (common_members g y) same.1 ∙ common_is_shared (turned g) y some below)

  -- with no slot taken yet, the members of slot j alone
  whole_and : (j : ℕ) → bit_and (shared_slots (turned g) 0) (member_word g j) ≡ member_word g j
  whole_and j =
      ap (λ w. bit_and w (member_word g j)) (shared_slots_none (turned g)) ∙ and_comm (2 ^ g.members - 1) (member_word g j) ∙ and_mask (member_word g j) g.members
      ∙ mod-eq_of_lt (slot_word_below (turned g) j)

  cut_within : (y j : ℕ) → Within (y % 2 ^ j) y
  cut_within y j i b = (and_parts (ltb i j) (bit y i) (sym (bit_cut y j i) ∙ b)).1

  -- what holds of the members of every slot, and of what is left of them slot by slot, holds of the members of every crew
  module _ (P : ℕ → Type 0) (slot : (j : ℕ) → j < g.slots → 0 < member_word g j → P (member_word g j))
      (more : (a j : ℕ) → j < g.slots → P a → 0 < bit_and a (member_word g j) → P (bit_and a (member_word g j))) where
    module _ (x y : ℕ) (crew : is_crew g x y ≡ true) where
      -- what the slots below j share holds the members of the crew, so it is not empty
      share_some : (j : ℕ) → 0 < shared_slots (turned g) (y % 2 ^ j)
      share_some j =
          let c = crew_sides x y crew in
          within_some g.members x (shared_slots (turned g) (y % 2 ^ j)) (crew_manned g x y crew).0.members_only
          (λ i b. shared_slots_part (turned g) (y % 2 ^ j) y (cut_within y j) i (subst (λ z. bit z i ≡ true) c.3 b)) c.0

      share_more : (j : ℕ) → j < g.slots → bit y j ≡ true → shared_slots (turned g) (y % 2 ^ suc j) ≡ bit_and (shared_slots (turned g) (y % 2 ^ j)) (member_word g j)
      share_more j within held = shared_slots_cut (turned g) (proper_turned g proper) y j within ∙ cond-true (bit y j) _ _ held

      -- slot j is taken after the slots below it
      one_more : (j : ℕ) → j < g.slots → bit y j ≡ true → (y % 2 ^ j ≡ 0) ⊎ P (shared_slots (turned g) (y % 2 ^ j)) → P (shared_slots (turned g) (y % 2 ^ suc j))
      one_more j within held sofar =
          let now = share_more j within held in
          let some = subst (λ w. 0 < w) now (share_some (suc j)) in
          ⊎_elim
          (λ none.
          let alone = ap (λ w. bit_and (shared_slots (turned g) w) (member_word g j)) none ∙ whole_and j in
          subst P (sym (now ∙ alone)) (slot j within (subst (λ w. 0 < w) alone some)))
          (λ p. subst P (sym now) (more (shared_slots (turned g) (y % 2 ^ j)) j within p some))
          sofar

      slots_below : (j : ℕ) → j ≤ g.slots → (y % 2 ^ j ≡ 0) ⊎ P (shared_slots (turned g) (y % 2 ^ j))
      slots_below zero within = inl (cut_none y)
      slots_below (suc j) within =
          let sofar = slots_below j (omega arith) in
          ⊎_elim (λ held. inr (one_more j within held sofar)) (λ lacks. subst (λ w. (w ≡ 0) ⊎ P (shared_slots (turned g) w)) (sym (cut_same y j lacks)) sofar) (cases_Bool (bit y j))

      pub crew_from_slots : P x
      crew_from_slots =
          let c = crew_sides x y crew in
          let all = mod-eq_of_lt c.2 in
          ⊎_elim
          (λ none. let e = sym all ∙ none in let some = c.1 in absurd (omega arith))
          (λ p. subst P (ap (shared_slots (turned g)) all ∙ sym c.3) p)
          (slots_below g.slots (omega arith))
