-- The first crew from a word on: the word itself, or the first of those that part from it at the highest number at which one does.
-- Assumes nothing.
use Rattle.std.proofs.Common.{◌≡◌, ℕ, suc, ◌%◌, ◌^◌, ◌<◌, ◌≤◌, true, false, ◌⊎◌, [], ◌∷◌, sym, refl, ◌∙◌, subst, ⊎_elim, lt_of_lt_of_le, arith, pow_mono}
use Rattle.std.proofs.lemmas.Bool.{both_ways, cases_Bool, cases_eq, cases_lt, cases_order}
use Rattle.words.specs.Bits.{bit}
use Rattle.words.specs.Order.{before, next_word}
use Rattle.words.proofs.Bits.{bit_zero}
use Rattle.words.proofs.Listed.{same_tests, within_some, held_below, cut_below, cut_holds, cut_lacks}
use Rattle.words.proofs.WordOrder.{earlier_found, earlier_from, before_tells, before_irreflexive, before_asym, before_total}
use Rattle.tables.specs.Grid.{Grid, Proper, shared_slots}
use Rattle.tables.specs.Crews.{is_crew, ahead}
use Rattle.tables.specs.Walk.{FirstFrom, Alike, PartsAt, NoneParts, NoneFrom, FirstParts, fits, members_of, built}
use Rattle.tables.proofs.Crews.{crew_manned}
use Rattle.tables.proofs.CrewsAhead.{crew_below, none_ahead, first_ahead}
use Rattle.tables.proofs.Greedy.{Greedy, pass_greedy, pass_unfit, greedy_crew, greedy_first, greedy_none, unfit_none}

-- ---- a word cut to the numbers of members

word_fits : (g : Grid) → Proper g → (w : ℕ) → w < 2 ^ g.members → w < 2 ^ 64
word_fits g proper w h = lt_of_lt_of_le h (pow_mono proper.members_fit)

-- a word of members is before p exactly where it is before what p holds of members
pub before_cut : (n z p : ℕ) → n ≤ 64 → z < 2 ^ n → before z p ≡ before z (p % 2 ^ n)
unfolding before
before_cut n z p l h =
    same_tests (before z p) (before z (p % 2 ^ n))
    (λ e. let b = earlier_found 64 z p e in let lb : b.at < n = held_below n z b.at h b.held in
    earlier_from 64 z (p % 2 ^ n) b.at b.held (cut_holds p n b.at lb ∙ b.lacked) (λ i li. b.alike i li ∙ sym (cut_holds p n i (omega arith))) (omega arith))
    (λ e. let b = earlier_found 64 z (p % 2 ^ n) e in let lb : b.at < n = held_below n z b.at h b.held in
    earlier_from 64 z p b.at b.held (sym (cut_holds p n b.at lb) ∙ b.lacked) (λ i li. b.alike i li ∙ cut_holds p n i (omega arith)) (omega arith))

-- ---- where words part

-- a word after w parts from it at a number that w holds
pub parts_somewhere : (w z : ℕ) → w < 2 ^ 64 → z < 2 ^ 64 → (z ≡ w → ⊥) → before z w ≡ false → (i : ℕ) × (bit w i ≡ true) × PartsAt i w z
parts_somewhere w z hw hz other e =
    let b = (before_tells w z hw hz).0 (before_total z w hz hw other e) in
    (b.at, b.held, λ k lk. ⊎_elim (λ q. subst (λ v. bit z v ≡ bit (w % 2 ^ b.at) v) (sym q) (b.lacked ∙ sym (cut_lacks w b.at b.at (omega arith)))) (λ q. sym (b.alike k (omega arith)) ∙ sym (cut_holds w b.at k (omega arith))) (cases_eq k b.at))

-- a word that parts from w is alike below that number, and does not hold it
pub parts_alike : (w i z : ℕ) → PartsAt i w z → Alike i z w
parts_alike w i z h k l = h k (omega arith) ∙ cut_holds w i k l

pub parts_lacks : (w i z : ℕ) → PartsAt i w z → bit z i ≡ false
parts_lacks w i z h = h i (omega arith) ∙ cut_lacks w i i (omega arith)

-- a word that parts from w at a number of w comes after w
pub parts_after : (w i z : ℕ) → w < 2 ^ 64 → z < 2 ^ 64 → bit w i ≡ true → PartsAt i w z → before w z ≡ true
parts_after w i z hw hz b h = (before_tells w z hw hz).1 (record { at = i; held = b; lacked = parts_lacks w i z h; alike = λ k l. sym (parts_alike w i z h k l) })

-- of two words that part from w at numbers of w, the one that parts at the higher number comes first
pub parts_order : (w i j x z : ℕ) → x < 2 ^ 64 → z < 2 ^ 64 → j < i → bit w j ≡ true → PartsAt i w x → PartsAt j w z → before x z ≡ true
parts_order w i j x z hx hz l b p q =
    (before_tells x z hx hz).1 (record { at = j; held = parts_alike w i x p j l ∙ b; lacked = parts_lacks w j z q; alike = λ k lk. parts_alike w i x p k (omega arith) ∙ sym (parts_alike w j z q k lk) })

-- ---- the crews that part from w at number i

module _ (g : Grid) (proper : Proper g) (w i : ℕ) (l : i < g.members) where
  pub unfit_none_parts : fits g i (w % 2 ^ i) (shared_slots g (w % 2 ^ i)) ≡ false → NoneParts g w i
  unfit_none_parts e z v h a = unfit_none g proper i (w % 2 ^ i) l (cut_below w i) e z (crew_manned g z v h).0 a

  end_greedy : fits g i (w % 2 ^ i) (shared_slots g (w % 2 ^ i)) ≡ true → Greedy g i (w % 2 ^ i) g.members (built g w i).0 (built g w i).1
  end_greedy e = pass_greedy g proper i (w % 2 ^ i) g.members (cut_below w i) e l (omega arith)

  -- the pass comes to the slots that its members share
  pub pass_shares : ((built g w i).0 < 2 ^ g.members) × ((built g w i).1 ≡ shared_slots g (built g w i).0)
  pass_shares =
      ⊎_elim (λ e. ((end_greedy e).below, (end_greedy e).slots_are))
      (λ e. subst (λ (c : ℕ × ℕ). (c.0 < 2 ^ g.members) × (c.1 ≡ shared_slots g c.0)) (sym (pass_unfit g proper i (w % 2 ^ i) g.members e)) (lt_of_lt_of_le (cut_below w i) (pow_mono (omega arith)), refl))
      (cases_Bool (fits g i (w % 2 ^ i) (shared_slots g (w % 2 ^ i))))

  -- if what the pass comes to is a crew, it is the first that parts from w at i
  pub pass_found : is_crew g (built g w i).0 (built g w i).1 ≡ true → FirstParts g w i (built g w i).0 (built g w i).1
  pass_found c =
      ⊎_elim
      (λ e. record {
        crew = c;
        parts = (end_greedy e).alike;
        first = λ z v h a. greedy_first g proper i (w % 2 ^ i) (built g w i).0 (built g w i).1 l (end_greedy e) z (crew_manned g z v h).0 a;
      })
      (λ e. absurd (unfit_none_parts e (w % 2 ^ i) (shared_slots g (w % 2 ^ i)) (subst (λ (s : ℕ × ℕ). is_crew g s.0 s.1 ≡ true) (pass_unfit g proper i (w % 2 ^ i) g.members e) c) (λ k _. refl)))
      (cases_Bool (fits g i (w % 2 ^ i) (shared_slots g (w % 2 ^ i))))

  -- and if it is none, no crew parts from w at i
  pub pass_none : is_crew g (built g w i).0 (built g w i).1 ≡ false → NoneParts g w i
  pass_none c =
      ⊎_elim
      (λ e z v h a. ⊎_elim
      (λ some. both_ways (is_crew g (built g w i).0 (built g w i).1) c (greedy_crew g proper i (w % 2 ^ i) (built g w i).0 (built g w i).1 l (end_greedy e) some))
      (λ none. greedy_none g proper i (w % 2 ^ i) (built g w i).0 (built g w i).1 l (end_greedy e) (omega arith) z (crew_manned g z v h).0 a)
      (cases_lt 0 (built g w i).0))
      unfit_none_parts
      (cases_Bool (fits g i (w % 2 ^ i) (shared_slots g (w % 2 ^ i))))

  -- where w has a number below i, a crew parts from w at i exactly where the shared slots of those numbers fit
  pub pass_some : 0 < w % 2 ^ i → fits g i (w % 2 ^ i) (shared_slots g (w % 2 ^ i)) ≡ true → is_crew g (built g w i).0 (built g w i).1 ≡ true
  pass_some some e =
      greedy_crew g proper i (w % 2 ^ i) (built g w i).0 (built g w i).1 l (end_greedy e)
      (within_some i (w % 2 ^ i) (built g w i).0 (cut_below w i) (λ k b. (end_greedy e).alike k (let h : k < i = held_below i (w % 2 ^ i) k (cut_below w i) b in omega arith) ∙ b) some)

-- ---- the numbers of w from the highest down

pub none_from_start : (g : Grid) (w i : ℕ) → g.members ≤ i → NoneFrom g w i
none_from_start g w i l k a b = absurd (omega arith)

pub none_from_more : (g : Grid) (w i : ℕ) → NoneFrom g w (suc i) → (bit w i ≡ true → NoneParts g w i) → NoneFrom g w i
none_from_more g w i rest here k a b e =
    ⊎_elim (λ q. subst (NoneParts g w) (sym q) (here (subst (λ v. bit w v ≡ true) q e))) (λ q. rest k (omega arith) b e) (cases_eq k i)

-- where w has no number below i, there is none further down
pub none_from_last : (g : Grid) (w i : ℕ) → w % 2 ^ i ≡ 0 → NoneFrom g w i → NoneFrom g w 0
none_from_last g w i none above k _ b e =
    ⊎_elim (λ low. absurd (both_ways (bit 0 k) (bit_zero k) (subst (λ v. bit v k ≡ true) none (cut_holds w i k low ∙ e)))) (λ high. above k high b e) (cases_lt k i)

-- ---- the first crew from p on

module _ (g : Grid) (proper : Proper g) (p : ℕ) where
  word_below : members_of g p < 2 ^ 64
  word_below = word_fits g proper (members_of g p) (cut_below p g.members)

  crew_cut : (x y : ℕ) → is_crew g x y ≡ true → before x p ≡ before x (members_of g p)
  crew_cut x y h = before_cut g.members x p proper.members_fit (crew_manned g x y h).0.members_only

  -- the word is a crew's
  pub from_here : (y : ℕ) → is_crew g (members_of g p) y ≡ true → FirstFrom g p (members_of g p) y
  from_here y h = record {
    crew = h;
    from = crew_cut (members_of g p) y h ∙ before_irreflexive (members_of g p);
    first = λ x' y' k e. sym (crew_cut x' y' k) ∙ e;
  }

  pub walk_here : (y : ℕ) → is_crew g (members_of g p) y ≡ true → ahead g p ≡ (members_of g p, y) ∷ ahead g (next_word (members_of g p))
  walk_here y h = let f = from_here y h in first_ahead g proper p (members_of g p) y f.crew f.from f.first

  -- the word is no crew's
  module _ (no_crew : is_crew g (members_of g p) (shared_slots g (members_of g p)) ≡ false) where
    not_here : (x y : ℕ) → is_crew g x y ≡ true → x ≡ members_of g p → ⊥
    not_here x y h e =
        both_ways (is_crew g (members_of g p) (shared_slots g (members_of g p))) no_crew
        (subst (λ v. is_crew g v (shared_slots g v) ≡ true) e (subst (λ v. is_crew g x v ≡ true) (crew_manned g x y h).1 h))

    -- a crew from p on parts from the word
    crew_parts : (x y : ℕ) → is_crew g x y ≡ true → before x p ≡ false → (i : ℕ) × (bit (members_of g p) i ≡ true) × PartsAt i (members_of g p) x
    crew_parts x y h e = parts_somewhere (members_of g p) x word_below (crew_below g proper x y h) (not_here x y h) (sym (crew_cut x y h) ∙ e)

    pub walk_none : NoneFrom g (members_of g p) 0 → ahead g p ≡ []
    walk_none above =
        none_ahead g proper p (λ x y h e.
        let q = crew_parts x y h e in
        above q.0 (omega arith) (held_below g.members (members_of g p) q.0 (cut_below p g.members) q.1) q.1 x y h q.2)

    -- the numbers from i on are done with, but for i itself
    module _ (i : ℕ) (above : NoneFrom g (members_of g p) (suc i)) (b : bit (members_of g p) i ≡ true) where
      -- the first of the crews that part from the word at the highest number at which one does
      pub from_parting : (x y : ℕ) → FirstParts g (members_of g p) i x y → FirstFrom g p x y
      from_parting x y f =
          let hx = crew_below g proper x y f.crew in
          record {
            crew = f.crew;
            from = crew_cut x y f.crew ∙ before_asym (members_of g p) x (parts_after (members_of g p) i x word_below hx b f.parts);
            first = λ z v h e.
                let q = crew_parts z v h e in
                ⊎_elim (λ s. f.first z v h (subst (λ k. PartsAt k (members_of g p) z) s q.2))
                (λ o. ⊎_elim (λ lower. before_asym x z (parts_order (members_of g p) i q.0 x z hx (crew_below g proper z v h) lower q.1 f.parts q.2))
                (λ higher. absurd (above q.0 higher (held_below g.members (members_of g p) q.0 (cut_below p g.members) q.1) q.1 z v h q.2)) o)
                (cases_order q.0 i);
          }

      pub walk_parting : (x y : ℕ) → FirstParts g (members_of g p) i x y → ahead g p ≡ (x, y) ∷ ahead g (next_word x)
      walk_parting x y q = let f = from_parting x y q in first_ahead g proper p x y f.crew f.from f.first

      -- the pass at i tells where the shared slots of the numbers below i fit, and where there are no such numbers
      module _ (l : i < g.members) (Tried-here : (members_of g p % 2 ^ i ≡ 0) ⊎ (fits g i (members_of g p % 2 ^ i) (shared_slots g (members_of g p % 2 ^ i)) ≡ true)) where
        pub walk_pass_crew : is_crew g (built g (members_of g p) i).0 (built g (members_of g p) i).1 ≡ true → ahead g p ≡ built g (members_of g p) i ∷ ahead g (next_word (built g (members_of g p) i).0)
        walk_pass_crew c = walk_parting (built g (members_of g p) i).0 (built g (members_of g p) i).1 (pass_found g proper (members_of g p) i l c)

        pub walk_pass_none : is_crew g (built g (members_of g p) i).0 (built g (members_of g p) i).1 ≡ false → ahead g p ≡ []
        walk_pass_none c =
            walk_none (none_from_last g (members_of g p) i empty (none_from_more g (members_of g p) i above (λ _. pass_none g proper (members_of g p) i l c)))
          where
            empty : members_of g p % 2 ^ i ≡ 0
            empty =
                ⊎_elim (λ e. e)
                (λ e. ⊎_elim (λ some. absurd (both_ways (is_crew g (built g (members_of g p) i).0 (built g (members_of g p) i).1) c (pass_some g proper (members_of g p) i l some e))) (λ none. omega arith) (cases_lt 0 (members_of g p % 2 ^ i)))
                Tried-here
