use Rattle.std.proofs.Common.{◌^◌, ◌<◌, not, sym, ap, ◌∙◌, arith}
use Rattle.words.specs.Order.{before, next_word}
use Rattle.words.proofs.WordOrder.{next_zero, next_after, next_bits, top_shifted, top_held}
use Rattle.words.proofs.order.successor.Goals as goal

pub returns-then-word-eq0 : goal.returns-then-word-eq0
returns-then-word-eq0 c = record {
  value = sym (ap next_word c.if-word-eq0.true ∙ next_zero);
  next = λ p. absurd (omega arith);
}

some : (c : goal.Else-word-eq0) → 0 < c.args.word
some c = omega arith

fits : (c : goal.Else-word-eq0) → c.args.word < 2 ^ 64
fits c = omega arith

pub overflow_sub-result : goal.overflow_sub-result
overflow_sub-result c = rw (top_shifted c.args.word (some c) (fits c)) (top_held c.args.word (some c) (fits c))

pub returns : goal.returns
returns c =
    let x = c.args.word in
    let bits = next_bits x (some c) (fits c) in
    rw (top_shifted x (some c) (fits c)) (record {
      value = bits;
      next = λ p y h. ap (λ w. not (before y w)) bits ∙ next_after x y p (fits c);
    })
