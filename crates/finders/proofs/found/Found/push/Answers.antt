use Rattle.std.proofs.Common.{◌+◌, ◌≤◌, ◌++◌, ◌∷◌, [], ap, ◌∙◌, arith, length-set}
use Rattle.tables.specs.Sides.{sides}
use Rattle.finders.specs.Found.{has_members}
use Rattle.finders.proofs.Places.{place_left, front_more, filled_more, apart_more}
use Rattle.finders.proofs.found.Found.push.Goals as goal

pub listed : goal.listed
listed c = place_left _ _ c.self.invariant _ c.self.view_is c.requires.room

pub bounds-self-inside-self-inside : goal.bounds-self-inside-self-inside
bounds-self-inside-self-inside c = let l = place_left _ _ c.self.invariant _ c.self.view_is c.requires.room in let long = c.self.invariant.places_count in omega arith

pub invariant_of-self : goal.invariant_of-self
invariant_of-self c =
    let kept = c.self.invariant in
    let places = c.self.inside.places in
    let n = c.self.inside.used in
    let l = place_left places n kept _ c.self.view_is c.requires.room in
    let long = kept.places_count in
    let fits : n + 1 ≤ 512 = omega arith in
    record {
      places_count = length-set _ _ _ ∙ long;
      fits = fits;
      filled = filled_more places n c.args.crew l kept.filled;
      apart = apart_more places n c.args.crew l kept.apart (ap (has_members c.args.crew.members) c.self.view_is ∙ c.requires.fresh);
    }

pub returns : goal.returns
returns c =
    front_more c.self.inside.places c.self.inside.used c.args.crew (place_left _ _ c.self.invariant _ c.self.view_is c.requires.room)
    ∙ ap (λ l. l ++ sides c.args.crew ∷ []) c.self.view_is
