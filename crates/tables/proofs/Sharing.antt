-- The common slots of a word, gathered one member after the other. Assumes nothing.
use Rattle.std.proofs.Common.{◌≡◌, ℕ, zero, suc, cond, fold, ◌-◌, ◌%◌, ◌^◌, ◌<◌, ◌≤◌, min, ◌⊎◌, sym, ap, ◌∙◌, ap₂, inl, inr, ⊎_elim, mod-eq_of_lt, arith, pow_pos}
use lib.Bits.{bit_and}
use Rattle.std.specs.List.{range_with_len}
use Rattle.std.proofs.lemmas.List.Sums.{fold_push}
use Rattle.words.specs.Bits.{bit}
use Rattle.words.proofs.Bits.{all_below}
use Rattle.words.proofs.Ranges.{below_more}
use Rattle.words.proofs.Listed.{cut_none}
use Rattle.tables.specs.Grid.{Grid, Proper, turned, slot_word, shared_slots, common_slots}
use Rattle.tables.proofs.Closure.{shared_slots_none, shared_slots_cut, common_is_shared, common_none}

pub proper_turned : (g : Grid) → Proper g → Proper (turned g)
proper_turned g proper = record {
  some_member = proper.some_slot;
  members_fit = proper.slots_fit;
  some_slot = proper.some_member;
  slots_fit = proper.members_fit;
  inside = λ j i h. ((proper.inside i j h).1, (proper.inside i j h).0);
}

-- the word `all` of the numbers below a count, as the code makes it
whole : (count n all : ℕ) → n ≤ 64 → count ≡ n → all ≡ 2 ^ min count 64 - 1 → all ≡ 2 ^ n - 1
whole count n all fits e made = made ∙ ap (λ k. 2 ^ min k 64 - 1) e ∙ all_below n fits

module _ (g : Grid) (proper : Proper g) (x : ℕ) where
  -- what is shared once one more number was looked at
  abbrev pub share : ℕ → ℕ → ℕ
  share s i = cond (bit x i) (bit_and s (slot_word g i)) s

  -- the numbers below n, one after the other
  abbrev taken : ℕ → ℕ
  taken n = fold share (2 ^ g.slots - 1) (range_with_len 0 n)

  taken_shared : (n : ℕ) → n ≤ g.members → taken n ≡ shared_slots g (x % 2 ^ n)
  taken_shared zero h = sym (ap (shared_slots g) (cut_none x) ∙ shared_slots_none g)
  taken_shared (suc n) h =
      let within : n < g.members = omega (arith, h) in
      ap (fold share (2 ^ g.slots - 1)) (below_more n)
      ∙ fold_push share (2 ^ g.slots - 1) (range_with_len 0 n) n
      ∙ ap (λ s. cond (bit x n) (bit_and s (slot_word g n)) s) (taken_shared n (omega (arith, h)))
      ∙ sym (shared_slots_cut g proper x n within)

  module _ (count all : ℕ) (e : count ≡ g.members) (made : all ≡ 2 ^ min count 64 - 1) where
    top : all ≡ 2 ^ g.members - 1
    top = whole count g.members all proper.members_fit e made

    -- a word that is no set of members has no common slots
    pub share_none : (x ≡ 0) ⊎ (all < x) → 0 ≡ common_slots g x
    share_none why =
        let p = pow_pos g.members in
        let t = top in
        sym (common_none g x (⊎_elim (λ z. inl z) (λ l. inr (omega arith)) why))

    -- the words of all members of x, from every slot on, leave the common slots
    pub share_all : (slots every s : ℕ) → slots ≡ g.slots → every ≡ 2 ^ min slots 64 - 1 → (x ≡ 0 → ⊥) → x ≤ all → s ≡ fold share every (range_with_len 0 count) → s ≡ common_slots g x
    share_all slots every s e' made' some within is =
        let p = pow_pos g.members in
        let t = top in
        let below : x < 2 ^ g.members = omega arith in
        is ∙ ap₂ (λ w n. fold share w (range_with_len 0 n)) (whole slots g.slots every proper.slots_fit e' made') e
        ∙ taken_shared g.members (omega arith) ∙ ap (shared_slots g) (mod-eq_of_lt below) ∙ sym (common_is_shared g x (omega arith) below)
