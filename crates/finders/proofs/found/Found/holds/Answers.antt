use Rattle.std.proofs.Common.{rules, eqb, take, ap, ◌∙◌, tests}
use Rattle.std.specs.Option.{option_to_list}
use Rattle.std.proofs.lemmas.Iterator.{YieldsList-from_slice}
use Rattle.std.proofs.lemmas.Iterator.Adapters.{YieldsList-from_flatten, YieldsList-from_once}
use Rattle.std.proofs.lemmas.Iterator.Consumers.{YieldsList-from_copied}
use Rattle.std.proofs.lemmas.Iterator.Search.{any_from_yields_List}
use Rattle.finders.specs.Found.{has_members}
use Rattle.finders.proofs.FoundLists.{held_any}
use Rattle.finders.proofs.Places.{front_listed}
use Rattle.finders.proofs.found.Found.holds.Goals as goal

pub returns : goal.returns
returns c =
    any_from_yields_List (λ k. eqb k.members c.args.members) _ _ _ c.any.ensures.ran
    (YieldsList-from_flatten _ _ (λ y. y) option_to_list (λ x j h. YieldsList-from_once x h.0) (YieldsList-from_copied (YieldsList-from_slice (take c.self.inside.used c.self.inside.places) cc)) c.flatten.ensures.front c.flatten.ensures.back c.flatten.ensures.done)
    (λ x b q k. search (rules, tests))
    ∙ held_any c.args.members _ ∙ ap (has_members c.args.members) (front_listed c.self.inside.places c.self.inside.used c.self.invariant.filled ∙ c.self.view_is)
