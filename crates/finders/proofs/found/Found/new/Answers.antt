use Rattle.std.proofs.Common.{refl, arith}
use Rattle.finders.specs.Places.{front_crews}
use Rattle.finders.proofs.Places.{filled_none}
use Rattle.finders.proofs.found.Found.new.Goals as goal

pub invariant_of-result : goal.invariant_of-result
invariant_of-result c = record { places_count = refl; fits = omega arith; filled = filled_none 512; apart = (λ i j l m e. omega arith) }

pub returns : goal.returns
unfolding front_crews
returns c = refl
