use Rattle.std.proofs.Common.{◌≡◌, get_or, ◌∙◌, arith, rules}
use Rattle.words.proofs.Bits.{gathered}
use Rattle.tables.specs.Filed.{held}
use Rattle.tables.specs.Grid.{slot_word}
use Rattle.rosters.proofs.bit_roster.table.BitRosterTable.member_word.Goals as goal

pub returns : goal.returns
unfolding slot_word
returns c =
    let r = c.args.self.now in
    let word : c.unwrap_or.result ≡ get_or r.columns c.args.slot 0 = search rules in
    word ∙ gathered (get_or r.columns c.args.slot 0) r.size.members (λ i. held r.rows i c.args.slot) (omega arith) (search rules) (λ i. r.mirrored i c.args.slot) (λ i h. (r.inside i c.args.slot h).0)
