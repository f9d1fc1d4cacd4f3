-- What the search for the first crew from a word on comes to, in the terms of the walk. Assumes nothing.
use Rattle.std.proofs.Common.{◌≡◌, ℕ, zero, suc, add-suc, cond, fold, ◌+◌, ◌-◌, ◌%◌, ◌^◌, ◌<◌, ◌≤◌, min, Bool, true, false, ◌&&◌, List, [], ◌∷◌, Some, None, Option, sym, refl, ap, ◌∙◌, inr, ⊎_elim, arith}
use lib.Bits.{bit_and, bit_or, and_mask}
use Rattle.std.specs.List.{range_with_len, find}
use Rattle.std.specs.Option.{MatchOption}
use Rattle.std.proofs.lemmas.List.Sums.{fold-append}
use Rattle.std.proofs.lemmas.Bool.{and_cases, and_parts, cases_Bool, cases_lt, cond_both, both_ways}
use Rattle.words.specs.Bits.{bit, lone}
use Rattle.words.specs.Order.{next_word}
use Rattle.words.proofs.Bits.{all_below, lone_power}
use Rattle.words.proofs.Listed.{cut_below}
use Rattle.tables.specs.Crews.{ahead, is_crew, manned}
use Rattle.tables.specs.Firsts.{first, rest}
use Rattle.tables.specs.Grid.{Grid, Proper, slot_word, shared_slots}
use Rattle.tables.specs.Sides.{crew_of}
use Rattle.tables.specs.Walk.{fits, tried, pass, built, members_of, NoneFrom}
use Rattle.tables.proofs.Crews.{crew_manned, manned_shared}
use Rattle.tables.proofs.CrewsAhead.{ahead_rest}
use Rattle.tables.proofs.Greedy.{pass_start, pass_more, pass_greedy, greedy_crew}
use Rattle.tables.proofs.GreedyWalk.{none_from_more, unfit_none_parts, walk_here, walk_none, walk_pass_crew, walk_pass_none}
use Rattle.tables.proofs.Sides.{none_some, crew_some, crew_none}
use Rattle.walks.proofs.Ranges.{down}
use Rattle.words.proofs.Ranges.{range_more}

-- the numbers of w below n, as the code cuts them
pub cut_word : (w n mask : ℕ) → n ≤ 64 → mask ≡ 2 ^ min n 64 - 1 → bit_and w mask ≡ w % 2 ^ n
cut_word w n mask fits e = ap (bit_and w) (e ∙ all_below n fits) ∙ and_mask w n

-- a crew's words are those of a crew
crew_stands : (g : Grid) (x y : ℕ) → is_crew g x y ≡ true → crew_of x y ≡ Some (x, y)
crew_stands g x y h = let m = crew_manned g x y h in let e = m.1 in crew_some x y m.0.some_member (let s = m.0.some_slot in omega arith)

module _ (g : Grid) (proper : Proper g) (p : ℕ) where
  -- the word of the position is a crew's
  pub first_here : manned g (members_of g p) ≡ true → crew_of (members_of g p) (shared_slots g (members_of g p)) ≡ first (ahead g p)
  first_here h =
      let w = members_of g p in
      let crew = sym (manned_shared g w) ∙ h in
      crew_stands g w (shared_slots g w) crew ∙ sym (ap first (walk_here g proper p (shared_slots g w) crew))

  module _ (unmanned : manned g (members_of g p) ≡ false) where
    no_crew : is_crew g (members_of g p) (shared_slots g (members_of g p)) ≡ false
    no_crew = sym (manned_shared g (members_of g p)) ∙ unmanned

    -- no crew from the position on
    pub first_none : NoneFrom g (members_of g p) 0 → None ≡ first (ahead g p)
    first_none none = sym (ap first (walk_none g proper p no_crew none))

    -- the pass gives the first crew from the position on
    pub first_parting :
        (i : ℕ) → i < g.members → NoneFrom g (members_of g p) (suc i) → bit (members_of g p) i ≡ true
        → fits g i (members_of g p % 2 ^ i) (shared_slots g (members_of g p % 2 ^ i)) ≡ true
        → crew_of (built g (members_of g p) i).0 (built g (members_of g p) i).1 ≡ first (ahead g p)
    first_parting i within above held fit =
        let w = members_of g p in
        let x = (built g w i).0 in
        let y = (built g w i).1 in
        let s = pass_greedy g proper i (w % 2 ^ i) g.members (cut_below w i) fit within (omega arith) in
        ⊎_elim
        (λ crew. crew_stands g x y crew ∙ sym (ap first (walk_pass_crew g proper p no_crew i above held within (inr fit) crew)))
        (λ none.
        let nobody : x ≡ 0 = ⊎_elim (λ some. absurd (both_ways _ none (greedy_crew g proper i (w % 2 ^ i) x y within s some))) (λ l. omega arith) (cases_lt 0 x) in
        crew_none x y nobody ∙ sym (ap first (walk_pass_none g proper p no_crew i above held within (inr fit) none)))
        (cases_Bool (is_crew g x y))

-- ---- the search from the highest number down

module _ (g : Grid) (proper : Proper g) (p : ℕ) (unmanned : manned g (members_of g p) ≡ false) where
  -- whether a crew may part from the word of the position at number i
  abbrev pub parts : ℕ → Bool
  parts i = bit (members_of g p) i && fits g i (members_of g p % 2 ^ i) (shared_slots g (members_of g p % 2 ^ i))

  -- what was found is the number at which the first crew parts from the word, and where nothing was found there is no crew
  abbrev pub Parted : Option ℕ → Type 0
  Parted o = MatchOption o (None ≡ first (ahead g p)) (λ i. (i < g.members) × (crew_of (built g (members_of g p) i).0 (built g (members_of g p) i).1 ≡ first (ahead g p)))

  pub first_parted : (test : ℕ → Bool) → ((i : ℕ) → i < g.members → test i ≡ parts i) → (n : ℕ) → n ≤ g.members → NoneFrom g (members_of g p) n → Parted (find test (down n))
  first_parted test same zero within none = first_none g proper p unmanned none
  first_parted test same (suc n) within none =
      let w = members_of g p in
      cond_both (test n) (Some n) (find test (down n)) Parted
      (λ h.
      let both = and_parts (bit w n) _ (sym (same n (omega arith)) ∙ h) in
      (omega arith, first_parting g proper p unmanned n (omega arith) none both.0 both.1))
      (λ h.
      first_parted test same n (omega arith)
      (none_from_more g w n none
      (λ held. ⊎_elim (λ lacks. absurd (both_ways _ lacks held)) (λ unfit. unfit_none_parts g proper w n (omega arith) unfit) (and_cases (bit w n) _ (sym (same n (omega arith)) ∙ h)))))

-- ---- the crews ahead after a step

-- past the first crew ahead lie the others
pub past_first : (g : Grid) → Proper g → (p : ℕ) (c : ℕ × ℕ) → first (ahead g p) ≡ Some c → ahead g (next_word c.0) ≡ rest (ahead g p)
past_first g proper p c e = go (ahead g p) refl e
  where
    go : (l : List (ℕ × ℕ)) → ahead g p ≡ l → first l ≡ Some c → ahead g (next_word c.0) ≡ rest (ahead g p)
    go [] h f = absurd (none_some c f)
    go (x ∷ xs) h f =
        let same : x ≡ c = cc in
        ap (λ d. ahead g (next_word d.0)) (sym same) ∙ sym (ahead_rest g proper p x xs h) ∙ sym (ap rest h)

-- where no crew is ahead, none is left
pub past_none : {A : Type 0} (l : List A) → first l ≡ None → l ≡ rest l
past_none [] e = refl
past_none (x ∷ xs) e = absurd (none_some x (sym e))

-- ---- the pass, number by number

-- number k taken in where that fits, as the code joins it
abbrev pub joined : Grid → ℕ → ℕ → ℕ × ℕ → ℕ → ℕ × ℕ
joined g i p s k = cond (fits g i p (bit_and s.1 (slot_word g k))) (bit_or s.0 (lone k), bit_and s.1 (slot_word g k)) s

joined_tried : (g : Grid) (i p k : ℕ) (s : ℕ × ℕ) → k < 64 → joined g i p s k ≡ tried g i p k s
unfolding tried
joined_tried g i p k s h = ap (λ b. cond (fits g i p (bit_and s.1 (slot_word g k))) (bit_or s.0 b, bit_and s.1 (slot_word g k)) s) (lone_power k h)

-- the pass joins the numbers above i one after another
pub pass_joined : (g : Grid) (i p n : ℕ) → i + 1 + n ≤ 64 → fold (joined g i p) (p, shared_slots g p) (range_with_len (i + 1) n) ≡ pass g i p (i + 1 + n)
pass_joined g i p zero h = sym (pass_start g i p (i + 1 + 0) (omega arith))
pass_joined g i p (suc n) h =
    let k = i + 1 + n in
    ap (fold (joined g i p) (p, shared_slots g p)) (range_more (i + 1) n) ∙ fold-append (joined g i p) (p, shared_slots g p) (range_with_len (i + 1) n) (k ∷ [])
    ∙ ap (λ s. joined g i p s k) (pass_joined g i p n (omega arith)) ∙ joined_tried g i p k (pass g i p k) (omega arith) ∙ sym (pass_more g i p k (omega arith))
    ∙ ap (pass g i p) (sym (add-suc (i + 1) n))
