use Rattle.std.proofs.Common.{rules, ◌≡◌, ℕ, Bool, List, Option, ◌-◌, ◌%◌, ◌^◌, ◌<◌, ◌≤◌, ◌&&◌, false, min, get_or, None, Some, sym, refl, ap, ◌∙◌, subst, ap₂, le_refl, le_of_eq, tests, arith}
use native.Mathlib.Nat.{mod-mod}
use lib.Bits.{bit_and}
use Rattle.std.specs.Option.{option_map}
use Rattle.std.specs.List.{find}
use Rattle.std.proofs.lemmas.Iterator.Adapters.{option_map_id}
use Rattle.std.proofs.lemmas.Iterator.Search.{find_from_yields_List}
use Rattle.words.specs.Bits.{bit}
use Rattle.words.proofs.Listed.{cut_below}
use Rattle.tables.specs.Crews.{manned}
use Rattle.tables.specs.Grid.{shared_slots}
use Rattle.tables.specs.Sides.{sides, crew_of}
use Rattle.tables.specs.Walk.{fits, pass}
use Rattle.tables.proofs.GreedyWalk.{none_from_start}
use Rattle.walks.specs.Rows.{rows_grid}
use Rattle.walks.specs.declared.rows.Rows.{Rows}
use Rattle.walks.proofs.Ranges.{down, YieldsList-from_turned}
use Rattle.walks.proofs.Snapshots.{rows_proper}
use Rattle.walks.proofs.Walking.{Parted, cut_word, first_here, first_parted}
use Rattle.walks.proofs.rows.Rows.first_from.Goals as goal
use Rattle.walks.proofs.rows.Rows.first_from.Goals.{After-shared_by_fronts-shared, After-find}

-- the word of the members that the position holds
word_is : (c : After-shared_by_fronts-shared) → bit_and c.args.position c.below.result ≡ c.args.position % 2 ^ c.args.self.now.size.members
word_is c = cut_word c.args.position c.args.self.now.size.members c.below.result c.args.self.now.size.members_fit (c.below.ensures ∙ ap (λ n. 2 ^ min n 64 - 1) c.members-count.ensures)

-- the slots shared by the numbers of that word below i
shared_at : (c : After-shared_by_fronts-shared) (i : ℕ) → i ≤ c.args.self.now.size.members → get_or c.shared_by_fronts-shared.result i 0 ≡ shared_slots (rows_grid c.args.self.now) (c.args.position % 2 ^ c.args.self.now.size.members % 2 ^ i)
shared_at c i within = c.shared_by_fronts-shared.ensures i within ∙ ap (λ w. shared_slots (rows_grid c.args.self.now) (w % 2 ^ i)) (word_is c)

shared_whole : (c : After-shared_by_fronts-shared) → get_or c.shared_by_fronts-shared.result c.members-count.result 0 ≡ shared_slots (rows_grid c.args.self.now) (c.args.position % 2 ^ c.args.self.now.size.members)
shared_whole c =
    let n = c.args.self.now.size.members in
    ap (λ k. get_or c.shared_by_fronts-shared.result k 0) c.members-count.ensures ∙ shared_at c n (le_refl n) ∙ ap (shared_slots (rows_grid c.args.self.now)) (mod-mod c.args.position (2 ^ n))

-- whether the code finds that a crew may part from the word at number i
abbrev test : Rows → ℕ → List ℕ → ℕ → Bool
test r word shared i = bit word i && fits (rows_grid r) i (bit_and word (2 ^ min i 64 - 1)) (get_or shared i 0)

found_is : (c : After-find) → c.find.result ≡ find (test c.args.self.now (bit_and c.args.position c.below.result) c.shared_by_fronts-shared.result) (down c.members-count.result)
found_is c =
    sym (option_map_id c.find.result)
    ∙ find_from_yields_List (test c.args.self.now (bit_and c.args.position c.below.result) c.shared_by_fronts-shared.result) _ _ _ c.find.ensures.ran (YieldsList-from_turned c.members-count.result c.rev.ensures.source) (λ x b q k. search (rules, tests))

module _ (r : Rows) (position word : ℕ) (shared : List ℕ) (is : word ≡ position % 2 ^ r.size.members) where
  -- the numbers of the word below i
  front_is : (i : ℕ) → i < r.size.members → bit_and word (2 ^ min i 64 - 1) ≡ position % 2 ^ r.size.members % 2 ^ i
  front_is i within = let fits = r.size.members_fit in cut_word word i _ (omega arith) refl ∙ ap (λ w. w % 2 ^ i) is

  -- what was found is the number at which the first crew parts from the word
  parted :
      (told : (i : ℕ) → i ≤ r.size.members → get_or shared i 0 ≡ shared_slots (rows_grid r) (position % 2 ^ r.size.members % 2 ^ i))
      (unmanned : manned (rows_grid r) (position % 2 ^ r.size.members) ≡ false) (n : ℕ) → n ≡ r.size.members → (found : Option ℕ) → found ≡ find (test r word shared) (down n)
      → Parted (rows_grid r) (rows_proper r) position unmanned found
  parted told unmanned n all found e =
      subst (Parted (rows_grid r) (rows_proper r) position unmanned) (sym e)
      (first_parted (rows_grid r) (rows_proper r) position unmanned (test r word shared)
      (λ i l. ap₂ (λ w t. bit w i && t) is (ap₂ (fits (rows_grid r) i) (front_is i l) (told i (omega arith)))) n (le_of_eq all) (none_from_start _ _ _ (le_of_eq (sym all))))

pub is_manned-requires : goal.is_manned-requires
is_manned-requires c =
    let d = (goal.at.is_manned-requires c).After-shared_by_fronts-shared in
    let n = c.args.self.now.size.members in
    record {
      below = subst (λ w. w < 2 ^ n) (sym (word_is d)) (cut_below c.args.position n);
      shared = shared_whole d ∙ ap (shared_slots (rows_grid c.args.self.now)) (sym (word_is d));
    }

pub returns-then-is_manned : goal.returns-then-is_manned
returns-then-is_manned c =
    let d = (goal.at.returns-then-is_manned c).After-shared_by_fronts-shared in
    let r = c.args.self.now in
    c.new.ensures ∙ ap₂ crew_of (word_is d) (shared_whole d)
    ∙ first_here (rows_grid r) (rows_proper r) c.args.position (ap (manned (rows_grid r)) (sym (word_is d)) ∙ sym c.is_manned.ensures ∙ c.if-is_manned.true)

pub returns-in_err-i : goal.returns-in_err-i
returns-in_err-i c =
    let d = (goal.at.returns-in_err-i c).After-shared_by_fronts-shared in
    let r = c.args.self.now in
    let unmanned = ap (manned (rows_grid r)) (sym (word_is d)) ∙ sym c.is_manned.ensures ∙ c.if-is_manned.false in
    ap (option_map sides) c.from_residual.ensures ∙ parted r _ _ _ (word_is d) (shared_at d) unmanned _ c.members-count.ensures None (sym c.in_err-i.was ∙ found_is (goal.at.returns-in_err-i c).After-find)

pub bounds-shared-i : goal.bounds-shared-i
bounds-shared-i c =
    let d = (goal.at.bounds-shared-i c).After-shared_by_fronts-shared in
    let r = c.args.self.now in
    let unmanned = ap (manned (rows_grid r)) (sym (word_is d)) ∙ sym c.is_manned.ensures ∙ c.if-is_manned.false in
    let within = (parted r _ _ _ (word_is d) (shared_at d) unmanned _ c.members-count.ensures (Some c.in_ok-i.i) (sym c.in_ok-i.was ∙ found_is (goal.at.bounds-shared-i c).After-find)).0 in
    let fits = r.size.members_fit in
    omega arith

pub complete-requires : goal.complete-requires
complete-requires c =
    let d = (goal.at.complete-requires c).After-shared_by_fronts-shared in
    let r = c.args.self.now in
    let i = c.in_ok-i.i in
    let unmanned = ap (manned (rows_grid r)) (sym (word_is d)) ∙ sym c.is_manned.ensures ∙ c.if-is_manned.false in
    let within = (parted r _ _ _ (word_is d) (shared_at d) unmanned _ c.members-count.ensures (Some i) (sym c.in_ok-i.was ∙ found_is (goal.at.complete-requires c).After-find)).0 in
    let front = ap (bit_and (bit_and c.args.position c.below.result)) c.below-2.ensures ∙ front_is r c.args.position _ c.shared_by_fronts-shared.result (word_is d) i within in
    record { within = within; shared = shared_at d i (omega arith) ∙ ap (shared_slots (rows_grid r)) (sym front) }

pub returns : goal.returns
returns c =
    let d = (goal.at.returns c).After-shared_by_fronts-shared in
    let r = c.args.self.now in
    let g = rows_grid r in
    let i = c.in_ok-i.i in
    let unmanned = ap (manned g) (sym (word_is d)) ∙ sym c.is_manned.ensures ∙ c.if-is_manned.false in
    let made = parted r _ _ _ (word_is d) (shared_at d) unmanned _ c.members-count.ensures (Some i) (sym c.in_ok-i.was ∙ found_is (goal.at.returns c).After-find) in
    let front = ap (bit_and (bit_and c.args.position c.below.result)) c.below-2.ensures ∙ front_is r c.args.position _ c.shared_by_fronts-shared.result (word_is d) i made.0 in
    c.complete.ensures ∙ ap (λ p. crew_of (pass g i p r.size.members).0 (pass g i p r.size.members).1) front ∙ made.1
