use Rattle.std.proofs.Common.{◌/◌, ◌^◌, eqb, sym, ap, arith}
use lib.Bits.{and_mask}
use Rattle.words.specs.Bits.{bit}
use Rattle.words.proofs.Bits.{bit_high}
use Rattle.words.proofs.sets.holds.Goals as goal

pub returns-then-i-lt64 : goal.returns-then-i-lt64
unfolding bit
returns-then-i-lt64 c = ap (λ x. eqb x 1) (and_mask (c.args.word / 2 ^ c.args.i) 1)

pub returns-else-i-lt64 : goal.returns-else-i-lt64
returns-else-i-lt64 c = sym (bit_high c.args.word 64 c.args.i (omega arith) (omega arith))
