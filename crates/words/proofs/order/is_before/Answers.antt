use Rattle.std.proofs.Common.{ap, ◌∙◌}
use Rattle.std.specs.Ordering.{is_lt}
use Rattle.words.proofs.WordOrder.{word_order_is_lt}
use Rattle.words.proofs.order.is_before.Goals as goal

pub returns : goal.returns
returns c = c.is_lt.ensures ∙ ap is_lt c.compare.ensures.order ∙ word_order_is_lt c.args.a c.args.b
