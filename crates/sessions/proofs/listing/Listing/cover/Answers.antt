use Rattle.std.proofs.Common.{Ok, sym, ap, subst}
use Rattle.finders.specs.Finder.{finding}
use Rattle.sessions.specs.Cover.{GivesCover}
use Rattle.sessions.proofs.Covers.{covering_gives}
use Rattle.sessions.proofs.listing.Listing.cover.Goals as goal

pub returns-clause-covers : goal.returns-clause-covers
returns-clause-covers g c =
    let l = (finding c.args.self.now.finder).found in
    subst (GivesCover l c.args.member c.args.slot) (ap (λ o. Ok o) (sym c.covering.ensures)) (covering_gives c.args.member c.args.slot l)
