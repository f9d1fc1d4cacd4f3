-- The laws of the orders of crews. Assumes nothing.
use mathlib.Core.HLevel.{is_prop→PathP}
use Rattle.std.proofs.Math.Bridge.{le_prop}
use Rattle.std.specs.Prelude.{◌≡◌, ℕ, ◌^◌, ◌<◌, true, ◌&&◌, ◌==◌}
use Rattle.std.proofs.Common.{sym, ap, ◌∙◌}
use Rattle.std.proofs.lemmas.Bool.{eqb-true, eq-eqb}
use Rattle.std.specs.declared.cmp.Ordering.{Ordering}
use Rattle.std.specs.declared.cmp.Ordering.TheVariants.{Equal}
use Rattle.std.specs.Cmp.{IsTotalOrder, Equal-is, both_ways, first_so, second_so, tied_itself, nat_cmp_total, on_total, back_total, then_total}
use Rattle.std.specs.Ordering.{is_eq, nat_cmp, on, flip_args}
use Rattle.words.specs.Order.{word_order}
use Rattle.words.proofs.WordOrder.{word_order_same, word_order_turned, word_order_chain}
use Rattle.tables.specs.declared.crew.Crew.{Crew}
use Rattle.boards.specs.Orders.{Laws, laws_of_total, both_equal}
use Rattle.ranking.specs.Orders.{crew_order, seats_of, seat_order}

-- two crews with the same words are one
pub same_crew : (x y : Crew) → x.members ≡ y.members → x.slots ≡ y.slots → x ≡ y
same_crew x y p q j = record {
  members = p j;
  slots = q j;
  some_member = is_prop→PathP (λ k. 0 < p k) (λ k. le_prop) x.some_member y.some_member j;
  some_slot = is_prop→PathP (λ k. 0 < q k) (λ k. le_prop) x.some_slot y.some_slot j;
  members_fit = is_prop→PathP (λ k. p k < 2 ^ 64) (λ k. le_prop) x.members_fit y.members_fit j;
  slots_fit = is_prop→PathP (λ k. q k < 2 ^ 64) (λ k. le_prop) x.slots_fit y.slots_fit j;
}

-- by a part that is a word
by_word : (part : Crew → ℕ) → ((c : Crew) → part c < 2 ^ 64) → IsTotalOrder (on part word_order)
by_word part fits = record {
  antisymm = λ x y. word_order_turned (part y) (part x);
  trans = λ x y z. word_order_chain (part x) (part y) (part z);
  congr = λ x y z e. ap (λ k. word_order k (part z)) (word_order_same (part x) (part y) (fits x) (fits y) e);
}

pub crew_total : IsTotalOrder crew_order
crew_total = then_total (by_word (λ c. c.members) (λ c. c.members_fit)) (by_word (λ c. c.slots) (λ c. c.slots_fit))

pub crew_same : (x y : Crew) → crew_order x y ≡ Equal → x ≡ y
crew_same x y e =
    let (p, q) = both_equal (on (λ c. c.members) word_order) (on (λ c. c.slots) word_order) x y e in
    same_crew x y
    (word_order_same x.members y.members x.members_fit y.members_fit p)
    (word_order_same x.slots y.slots x.slots_fit y.slots_fit q)

pub crew_laws : Laws crew_order
crew_laws = laws_of_total crew_total crew_same

pub seat_total : IsTotalOrder seat_order
seat_total = then_total (back_total (on_total seats_of nat_cmp_total)) crew_total

pub seat_same : (x y : Crew) → seat_order x y ≡ Equal → x ≡ y
seat_same x y e = crew_same x y (both_equal (flip_args (on seats_of nat_cmp)) crew_order x y e).1

-- `==` on crews is how such an order tells them apart
pub tells_apart : {order : Crew → Crew → Ordering} → IsTotalOrder order → ((x y : Crew) → order x y ≡ Equal → x ≡ y)
    → (x y : Crew) → ((x.members == y.members && x.slots == y.slots) && true) ≡ is_eq (order x y)
tells_apart {order} total same x y =
    both_ways _ _
    (λ e. let both = first_so _ _ e in
    let one = same_crew x y (eqb-true _ _ (first_so (x.members == y.members) _ both)) (eqb-true _ _ (second_so (x.members == y.members) _ both)) in
    ap is_eq (ap (order x) (sym one) ∙ tied_itself total x))
    (λ e. let one = same x y ((Equal-is (order x y)).0 e) in
    rw (eq-eqb x.members y.members (ap (λ c. c.members) one), eq-eqb x.slots y.slots (ap (λ c. c.slots) one)))
