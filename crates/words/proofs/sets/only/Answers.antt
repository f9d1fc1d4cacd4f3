use Rattle.std.proofs.Common.{◌^◌, sym, ◌∙◌, arith}
use Rattle.std.proofs.lemmas.Nat.{one_shl}
use Rattle.std.proofs.lemmas.Bool.{cond-true, cond-false, lt-ltb, le-ltb}
use Rattle.words.specs.Bits.{lone}
use Rattle.words.proofs.sets.only.Goals as goal

pub returns-then-i-lt64 : goal.returns-then-i-lt64
unfolding lone
returns-then-i-lt64 c = one_shl c.args.i 64 (omega arith) ∙ sym (cond-true _ (2 ^ c.args.i) 0 (lt-ltb c.args.i 64 (omega arith)))

pub returns-else-i-lt64 : goal.returns-else-i-lt64
unfolding lone
returns-else-i-lt64 c = sym (cond-false _ (2 ^ c.args.i) 0 (le-ltb c.args.i 64 (omega arith)))
