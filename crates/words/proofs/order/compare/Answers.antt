use Rattle.std.proofs.Common.{arith}
use Rattle.std.proofs.lemmas.Bool.Decides.{nat_tests}
use lib.Bits.{bit_xor}
use lib.Count.{trailing_le}
use Rattle.words.proofs.WordOrder.{order_laws, word_order_by_xor}
use Rattle.words.proofs.order.compare.Goals as goal

pub returns-then-least-eq64 : goal.returns-then-least-eq64
returns-then-least-eq64 c = record {
  order = rw (word_order_by_xor c.args.a c.args.b) (grind (arith, nat_tests, c.if-least-eq64.true));
  laws = order_laws;
}

pub returns-then-holds : goal.returns-then-holds
returns-then-holds c = record {
  order = let h = trailing_le 64 (bit_xor c.args.a c.args.b) in rw (word_order_by_xor c.args.a c.args.b) (grind (arith, nat_tests, c.if-holds.ensures, c.if-least-eq64.false));
  laws = order_laws;
}

pub returns-else-holds : goal.returns-else-holds
returns-else-holds c = record {
  order = let h = trailing_le 64 (bit_xor c.args.a c.args.b) in rw (word_order_by_xor c.args.a c.args.b) (grind (arith, nat_tests, c.if-holds.ensures, c.if-least-eq64.false));
  laws = order_laws;
}
