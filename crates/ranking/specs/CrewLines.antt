-- Crew lines and seat lines: what each is made of, and its order. Assumes nothing.
use Rattle.std.specs.declared.cmp.Ordering.{Ordering}
use Rattle.tables.specs.declared.crew.Crew.{Crew}
use Rattle.boards.specs.Orders.{Laws}
use Rattle.ranking.specs.Orders.{crew_order, seat_order}
use Rattle.ranking.specs.CrewOrders.{crew_total, crew_same, seat_total, seat_same}
use Rattle.ranking.specs.Made.{made, told, ranked_order, ranked_laws}
use Rattle.ranking.specs.declared.ranked.Ranked.{Ranked}
use Rattle.ranking.specs.declared.crew_line.CrewOrder.{CrewOrder}
use Rattle.ranking.specs.declared.seat_line.SeatOrder.{SeatOrder}

abbrev pub CrewLine : Type 0
CrewLine = Ranked CrewOrder

abbrev pub crew_line : Crew → CrewLine
crew_line = made

abbrev pub crew_line_told : CrewLine → Crew
crew_line_told = told

-- in crew order
abbrev pub crew_line_order : CrewLine → CrewLine → Ordering
crew_line_order = ranked_order crew_order

pub crew_line_laws : Laws crew_line_order
crew_line_laws = ranked_laws crew_total crew_same

abbrev pub SeatLine : Type 0
SeatLine = Ranked SeatOrder

abbrev pub seat_line : Crew → SeatLine
seat_line = made

abbrev pub seat_line_told : SeatLine → Crew
seat_line_told = told

-- more seats first, ties as in the crew line
abbrev pub seat_line_order : SeatLine → SeatLine → Ordering
seat_line_order = ranked_order seat_order

pub seat_line_laws : Laws seat_line_order
seat_line_laws = ranked_laws seat_total seat_same
