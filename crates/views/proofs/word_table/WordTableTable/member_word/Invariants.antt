use Rattle.std.proofs.Common.{◌&&◌, ltb}
use Rattle.tables.specs.Filed.{held}
use Rattle.words.proofs.Gathering.{GatheredBelow}
use Rattle.views.proofs.word_table.WordTableTable.member_word.Given as goal

abbrev pub invariant-loop-i : goal.invariant-loop-i
invariant-loop-i l = GatheredBelow (λ i. (ltb i l.self.size.members && ltb l.slot l.self.size.slots) && held l.self.words.now i l.slot) l.i l.members
