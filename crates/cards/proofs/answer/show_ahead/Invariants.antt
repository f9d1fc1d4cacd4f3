use Rattle.std.proofs.Common.{◌≡◌, ◌≤◌, ◌++◌, length, take, drop, vec_items}
use Rattle.std.specs.List.{flat_map}
use Rattle.tables.specs.Crews.{ahead}
use Rattle.rosters.specs.Rosters.{bit_grid}
use Rattle.prints.specs.Prints.{crew_line}
use Rattle.cards.proofs.answer.show_ahead.Given as goal

abbrev pub invariant-loop-shown : goal.invariant-loop-shown
invariant-loop-shown l =
    let cs = ahead (bit_grid l.initial.listing.table) l.initial.listing.walk in
    (l.shown ≤ length cs) × (ahead (bit_grid l.listing.table) l.listing.walk ≡ drop l.shown cs) × (vec_items l.answer ≡ vec_items l.initial.answer ++ flat_map crew_line (take l.shown cs))
