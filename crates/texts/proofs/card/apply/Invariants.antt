use Rattle.std.proofs.Common.{◌≡◌, ◌+◌, ◌<◌, ◌≤◌, length}
use Rattle.texts.specs.Cards.{filled}
use Rattle.texts.proofs.Cards.{applied_left}
use Rattle.texts.proofs.card.apply.Given as goal

abbrev pub invariant-loop-rest : goal.invariant-loop-rest
invariant-loop-rest g l =
    (length l.rest ≤ length l.text) × (0 < length l.rest → l.line + length l.rest ≤ length l.text) × (filled (g.R.Roster.sheet l.initial.session.roster) l.text ≡ applied_left (g.R.Roster.sheet l.session.roster) (l.line + 1) (length l.text) l.rest)

abbrev pub decreases-loop-rest : goal.decreases-loop-rest
decreases-loop-rest g l = length l.rest
