use Rattle.rosters.specs.Coded.{pair_code}
use Rattle.rosters.proofs.Coding.{Spelled}
use Rattle.rosters.proofs.list_roster.table.ListRosterTable.slot_word.Given as goal

abbrev pub invariant-loop-code : goal.invariant-loop-code
invariant-loop-code l = Spelled (λ x. pair_code l.member x) l.code-index l.self.codes.places l.slots
