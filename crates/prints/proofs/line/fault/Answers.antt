use Rattle.std.proofs.Common.{ap, length, arith}
use Rattle.prints.proofs.Lengths.{cause_digit}
use Rattle.std.proofs.lemmas.Str.{encode_ascii}
use Rattle.prints.proofs.line.fault.Goals as goal

pub push-requires : goal.push-requires
push-requires c = grind (arith, cause_digit c.args.fault.now.cause, ap length (encode_ascii 10 (omega arith)))
