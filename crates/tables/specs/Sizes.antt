-- Which sizes there are. Assumes nothing.
use Rattle.std.specs.Prelude.{ℕ, Bool, cond, ◌&&◌, Ok, Err, Result, nat_le}
use Rattle.tables.specs.declared.size.Size.{Size}
use Rattle.tables.specs.declared.refusals.SizeRefusal.{SizeRefusal}
use Rattle.tables.specs.declared.refusals.SizeRefusal.TheVariants.{OutOfRange}

-- the two numbers of a size that was made, or why none was
abbrev pub told : Result Size SizeRefusal → Result (ℕ × ℕ) SizeRefusal
told (Ok s) = Ok (s.members, s.slots)
told (Err e) = Err e

abbrev pub from_one_to_64 : ℕ → Bool
from_one_to_64 k = nat_le 1 k && nat_le k 64

abbrev pub sizing : ℕ → ℕ → Result (ℕ × ℕ) SizeRefusal
sizing n m = cond (from_one_to_64 n && from_one_to_64 m) (Ok (n, m)) (Err OutOfRange)
