use Rattle.std.proofs.Common.{length, sym, ap, subst, arith}
use Rattle.finders.specs.Found.{DifferentMembers}
use Rattle.finders.proofs.FoundLists.{different_none}
use Rattle.finders.proofs.finder.Finder.new.Goals as goal

pub invariant_of-result : goal.invariant_of-result
invariant_of-result c =
    let none = ap length c.new.ensures in
    let limit = c.crews-crews.ensures.number in
    let most = c.crews-crews.ensures.few in
    record { within_limit = omega arith; limit_fits = omega arith; apart = subst DifferentMembers (sym c.new.ensures) different_none; steps_fit = omega arith }
