use Rattle.std.proofs.Common.{◌≡◌, get_or, refl, ◌∙◌, arith, rules}
use Rattle.words.proofs.Bits.{gathered}
use Rattle.tables.specs.Filed.{held}
use Rattle.tables.specs.Grid.{slot_word}
use Rattle.rosters.proofs.bit_roster.table.BitRosterTable.slot_word.Goals as goal

pub returns : goal.returns
unfolding slot_word
returns c =
    let r = c.args.self.now in
    let word : c.unwrap_or.result ≡ get_or r.rows c.args.member 0 = search rules in
    word ∙ gathered (get_or r.rows c.args.member 0) r.size.slots (held r.rows c.args.member) (omega arith) (search rules) (λ j. refl) (λ j h. (r.inside c.args.member j h).1)
