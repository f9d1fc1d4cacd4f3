use Rattle.std.proofs.Common.{get_or, ap, ◌∙◌, ap₂, arith}
use Rattle.std.proofs.lemmas.List.{get_or-replicate}
use Rattle.tables.specs.Sheet.{sheet}
use Rattle.rosters.proofs.Coding.{coded_none}
use Rattle.rosters.proofs.list_roster.ListRoster.new.Goals as goal

pub invariant_of-result : goal.invariant_of-result
invariant_of-result c = record { room = omega arith; ascending = (λ a b l u. absurd (omega arith)); vacant = (λ k u l. ap (λ places. get_or places k 0) c.new-codes.ensures ∙ get_or-replicate 257 k 65535 0 l); pairs = (λ k l. absurd (omega arith)) }

pub returns : goal.returns
returns c = ap₂ sheet (coded_none c.args.size.members c.args.size.slots c.new-codes.result.places) c.min-free.ensures
