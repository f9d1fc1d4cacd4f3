use Rattle.std.proofs.Common.{◌≡◌, map, take, drop}
use Rattle.std.specs.Option.{option_map}
use Rattle.tables.specs.Crews.{ahead, crews}
use Rattle.tables.specs.Sides.{sides}
use Rattle.sessions.specs.Tours.{in_turn}
use Rattle.sessions.proofs.tour.list_into.Given as goal

abbrev pub invariant-loop-place : goal.invariant-loop-place
invariant-loop-place g l =
    let grid = g.T.Table.grid l.initial.session.table in
    (l.session.table ≡ l.initial.session.table)
    × (l.session.finder ≡ l.initial.session.finder)
    × (ahead grid l.session.walk ≡ drop l.place-index (crews grid))
    × (map (option_map sides) (take l.place-index l.places) ≡ in_turn l.place-index (crews grid))
