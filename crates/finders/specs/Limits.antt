-- Which limits there are. Assumes nothing.
use Rattle.std.specs.Prelude.{◌≡◌, ℕ, cond, Ok, Err, Result, nat_le}
use Rattle.finders.specs.declared.limit.Limit.{Limit}
use Rattle.finders.specs.declared.refusals.LimitRefusal.{LimitRefusal}
use Rattle.finders.specs.declared.refusals.LimitRefusal.TheVariants.{TooLarge}

-- the limit of so many crews, or why there is none; a limit is seen as its number
abbrev pub limiting : ℕ → Result ℕ LimitRefusal
limiting k = cond (nat_le k 512) (Ok k) (Err TooLarge)

-- what a limit is made of a number
abbrev pub Limits : ℕ → Result Limit LimitRefusal → Type 0
Limits k r = r ≡ limiting k
