use Rattle.std.proofs.Common.{rules, ◌≡◌, ap, ◌∙◌}
use Rattle.std.specs.Option.{option_map, option_map_or}
use Rattle.tables.specs.Sides.{sides}
use Rattle.finders.proofs.FoundLists.{number_members}
use Rattle.finders.proofs.finder.Finder.members_at.Goals as goal

pub returns : goal.returns
returns c =
    let members : c.map_or.result ≡ option_map_or (λ s. s.0) (option_map sides c.get.result) 0 = search rules in
    members ∙ ap (λ o. option_map_or (λ s. s.0) o 0) c.get.ensures ∙ number_members c.args.self.now.found c.args.k
