use Rattle.std.proofs.Common.{rules, take, sym, ap, ◌∙◌, tests}
use Rattle.std.specs.Option.{option_map, option_to_list}
use Rattle.std.proofs.lemmas.Iterator.{YieldsList-from_slice}
use Rattle.std.proofs.lemmas.Iterator.Adapters.{YieldsList-from_flatten, YieldsList-from_once, option_map_id}
use Rattle.std.proofs.lemmas.Iterator.Consumers.{YieldsList-from_copied}
use Rattle.std.proofs.lemmas.Iterator.Search.{find_from_yields_List}
use Rattle.tables.specs.Sides.{sides}
use Rattle.finders.specs.Found.{covers, covering}
use Rattle.finders.proofs.FoundLists.{covering_find}
use Rattle.finders.proofs.Places.{front_listed}
use Rattle.finders.proofs.found.Found.covering.Goals as goal

pub returns : goal.returns
returns c =
    let i = c.args.member in
    let j = c.args.slot in
    let found = find_from_yields_List (λ k. covers i j (sides k)) _ _ _ c.find.ensures.ran
    (YieldsList-from_flatten _ _ (λ y. y) option_to_list (λ x j h. YieldsList-from_once x h.0) (YieldsList-from_copied (YieldsList-from_slice (take c.self.inside.used c.self.inside.places) cc)) c.flatten.ensures.front c.flatten.ensures.back c.flatten.ensures.done)
    (λ x b q k. search (rules, tests)) in
    ap (option_map sides) (sym (option_map_id _) ∙ found)
    ∙ covering_find i j _ ∙ ap (covering i j) (front_listed c.self.inside.places c.self.inside.used c.self.invariant.filled ∙ c.self.view_is)
