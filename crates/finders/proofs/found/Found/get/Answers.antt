use Rattle.std.proofs.Common.{rules, ◌≡◌, get_or, None, ap, ◌∙◌}
use Rattle.std.specs.Option.{option_map}
use Rattle.tables.specs.Sides.{sides}
use Rattle.finders.specs.Found.{number}
use Rattle.finders.proofs.Places.{front_number}
use Rattle.finders.proofs.found.Found.get.Goals as goal

pub returns : goal.returns
returns c =
    let place : c.flatten.result ≡ get_or c.self.inside.places c.args.k None = search rules in
    ap (option_map sides) place ∙ front_number c.self.inside.places c.self.inside.used c.args.k c.self.invariant.filled ∙ ap (λ l. number l c.args.k) c.self.view_is
