-- The definitions computed on the worked table. Assumes nothing.
use Rattle.std.proofs.Common.{refl}
use lib.Count.{ones, ones_in}
use Rattle.words.specs.Bits.{bit, gather, every}
use Rattle.words.specs.Order.{earlier, before, word_order}
use Rattle.tables.specs.Crews.{is_crew, manned, kept, all_words, crew_words, crews, ahead}
use Rattle.tables.specs.Grid.{slot_word, shared, shared_slots, common_slots}
use Rattle.std.specs.List.Sorted.{IsStrictlySortedBy}
use Rattle.finders.specs.Finder.{starts, starter_words, starters, met, wanted, finished, fresh, step_answer, after_step, reached}
use Rattle.ranking.specs.Orders.{seats_of}
use Rattle.ranking.specs.Worked.{WorkedTable}

pub worked_stands : WorkedTable
unfolding crews crew_words manned is_crew kept all_words ahead before earlier word_order reached step_answer after_step finished fresh wanted met starters starter_words starts slot_word shared shared_slots common_slots bit gather every ones ones_in seats_of IsStrictlySortedBy
worked_stands = record {
  in_order = refl;
  from_three = refl;
  from_four = refl;
  from_nobody = refl;
  common = refl;
  common_of_nobody = refl;
  all_found = refl;
  all_worked = refl;
  then_done = refl;
  six_work = refl;
  seventh_refused = refl;
  first_refused = refl;
  by_seats = ((refl, (refl, (refl, (refl, tt)))), ((refl, (refl, (refl, tt))), ((refl, (refl, tt)), ((refl, tt), (tt, tt)))));
}
