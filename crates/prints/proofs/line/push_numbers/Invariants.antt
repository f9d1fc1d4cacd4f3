use Rattle.std.proofs.Common.{◌≡◌, ◌++◌}
use Rattle.prints.specs.Prints.{numbers, commas}
use Rattle.prints.proofs.line.push_numbers.Given as goal

-- the numbers below i are written behind what stood on the line
abbrev pub invariant-loop-i : goal.invariant-loop-i
invariant-loop-i l = l.line.bytes ≡ l.initial.line.bytes ++ commas (numbers l.fn.word l.i)
