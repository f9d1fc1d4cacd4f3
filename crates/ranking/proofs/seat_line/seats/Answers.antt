use Rattle.std.proofs.Common.{◌*◌, ap₂, rules, lit<}
use lib.Count.{ones, ones-le}
use Rattle.std.proofs.Math.Nat.{lt_of_le_of_lt}
use Rattle.std.proofs.lemmas.Nat.{mul-le, or_lt}
use Rattle.ranking.specs.Orders.{seats_of}
use Rattle.ranking.proofs.seat_line.seats.Goals as goal

pub overflow_mul-result : goal.overflow_mul-result
overflow_mul-result c = record {
  fits = lt_of_le_of_lt (mul-le _ _ 64 64 (ones-le 64 _ (search (rules, or_lt 64))) (ones-le 64 _ (search (rules, or_lt 64)))) (lit< tt);
}

pub returns : goal.returns
unfolding seats_of
returns c = ap₂ (λ m s. ones m * ones s) c.members.ensures c.slots.ensures
