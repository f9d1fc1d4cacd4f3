-- The order of metres lines. Assumes nothing.
use Rattle.std.specs.Prelude.{◌≡◌}
use Rattle.std.proofs.Common.{sym}
use Rattle.std.proofs.lemmas.Cmp.{ranked}
use Rattle.std.specs.Cmp.{nat_cmp_total, on_total, back_total, then_total}
use Rattle.std.specs.Ordering.{nat_cmp, on, flip_args, then_cmp}
use Rattle.std.specs.declared.cmp.Ordering.{Ordering}
use Rattle.std.specs.declared.cmp.Ordering.TheVariants.{Equal}
use Rattle.boards.specs.Orders.{Laws, laws_of_total, both_equal}
use Rattle.boards.specs.declared.metres.MetresLine.{MetresLine}

-- more metres first, and the lower number of two members with the same metres
abbrev pub metres_order : MetresLine → MetresLine → Ordering
metres_order = then_cmp (flip_args (on (λ x. x.metres) nat_cmp)) (on (λ x. x.member) nat_cmp)

-- no two different lines are the same in it
pub metres_same : (x y : MetresLine) → metres_order x y ≡ Equal → x ≡ y
metres_same x y e j =
    let (p, q) = both_equal (flip_args (on (λ x. x.metres) nat_cmp)) (on (λ x. x.member) nat_cmp) x y e in
    record { member = ranked x.member y.member Equal (sym q) j; metres = sym (ranked y.metres x.metres Equal (sym p)) j }

pub metres_laws : Laws metres_order
metres_laws = laws_of_total (then_total (back_total (on_total (λ x. x.metres) nat_cmp_total)) (on_total (λ x. x.member) nat_cmp_total)) metres_same
