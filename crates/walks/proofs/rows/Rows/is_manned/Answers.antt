use Rattle.std.proofs.Common.{◌≡◌, ◌&&◌, ltb, sym, ap, ◌∙◌, ap₂, arith}
use Rattle.std.proofs.lemmas.Bool.{lt-ltb, le-ltb, and_left, and_right}
use Rattle.tables.specs.Crews.{is_crew, manned}
use Rattle.tables.specs.Walk.{closed_below}
use Rattle.tables.proofs.Crews.{manned_shared}
use Rattle.tables.proofs.Greedy.{crew_by_closed}
use Rattle.walks.specs.Rows.{rows_grid}
use Rattle.walks.proofs.Snapshots.{rows_proper}
use Rattle.walks.proofs.rows.Rows.is_manned.Goals as goal
use Rattle.walks.proofs.rows.Rows.is_manned.Goals.{Start, then-word-eq0-via-then-word-eq0, then-word-eq0-via-else-word-eq0+then-slots-eq0}

-- the word is a crew's where neither side is empty and nobody else has the slots
by_closed : (c : Start) → manned (rows_grid c.args.self.now) c.args.word ≡ ((ltb 0 c.args.word && ltb 0 c.args.slots) && closed_below (rows_grid c.args.self.now) c.args.self.now.size.members c.args.word c.args.slots)
by_closed c =
    let r = c.args.self.now in
    manned_shared (rows_grid r) c.args.word ∙ ap (is_crew (rows_grid r) c.args.word) (sym c.requires.shared)
    ∙ crew_by_closed (rows_grid r) (rows_proper r) c.args.word c.args.slots c.requires.below c.requires.shared

pub returns-then-word-eq0 : goal.returns-then-word-eq0
returns-then-word-eq0 c =
    let d = (goal.at.returns-then-word-eq0 c).Start in
    let word = ltb 0 c.args.word in
    let slots = ltb 0 c.args.slots in
    sym (by_closed d ∙ and_left (word && slots) (closed_below (rows_grid c.args.self.now) c.args.self.now.size.members c.args.word c.args.slots) (elim c.then-word-eq0.branch [
      | then-word-eq0-via-then-word-eq0 w ↦ and_left word slots (le-ltb 0 c.args.word (omega (arith, w.if-word-eq0.true)))
      | then-word-eq0-via-else-word-eq0+then-slots-eq0 w ↦ and_right word slots (le-ltb 0 c.args.slots (omega (arith, w.if-slots-eq0.true)))
    ]))

pub returns : goal.returns
returns c =
    let d = (goal.at.returns c).Start in
    c.is_closed.ensures ∙ ap (λ n. closed_below (rows_grid c.args.self.now) n c.args.word c.args.slots) c.members.ensures
    ∙ sym (by_closed d ∙ ap₂ (λ s t. (s && t) && closed_below (rows_grid c.args.self.now) c.args.self.now.size.members c.args.word c.args.slots) (lt-ltb 0 c.args.word (omega arith)) (lt-ltb 0 c.args.slots (omega arith)))
