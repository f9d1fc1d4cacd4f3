use Rattle.std.proofs.Common.{length, sym, ap, ◌∙◌}
use Rattle.finders.proofs.Places.{used_length}
use Rattle.finders.proofs.found.Found.len.Goals as goal

pub returns : goal.returns
returns c = record { count = sym (used_length _ _ c.self.invariant) ∙ ap length c.self.view_is; few = c.self.invariant.fits }
