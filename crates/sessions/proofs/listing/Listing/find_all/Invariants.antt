use Rattle.std.proofs.Common.{◌≡◌, ◌+◌, ◌-◌, ◌*◌}
use Rattle.finders.specs.Finder.{finding, reached}
use Rattle.sessions.proofs.listing.Listing.find_all.Given as goal

abbrev pub invariant-loop-listing : goal.invariant-loop-listing
invariant-loop-listing g l =
    (l.listing.table ≡ l.initial.listing.table)
    × (l.listing.walk ≡ l.initial.listing.walk)
    × (l.listing.finder.limit ≡ l.initial.listing.finder.limit)
    × (finding l.listing.finder ≡ reached (g.T.Table.grid l.initial.listing.table) l.initial.listing.finder.limit l.listing.finder.worked)

abbrev pub decreases-loop-listing : goal.decreases-loop-listing
decreases-loop-listing g l = 64 + 64 * 512 - l.listing.finder.worked
