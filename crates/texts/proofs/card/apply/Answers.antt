use Rattle.std.proofs.Common.{◌+◌, ◌<◌, length, sym, ap, ◌∙◌, arith, true-eqb, false-eqb}
use Rattle.texts.specs.Cards.{applied, filled}
use Rattle.texts.proofs.Cards.{applied_left, applied_end, applied_fault, applied_more}
use Rattle.texts.proofs.Lines.{behind_shorter, later_lines}
use Rattle.texts.proofs.card.apply.Goals as goal

pub loop-rest-init : goal.loop-rest-init
unfolding filled
loop-rest-init g c =
    let back = c.split.ensures.back in
    let shorter = behind_shorter 10 c.args.text.now in
    let same = ap length back in
    let s = g.R.Roster.sheet c.args.session.now.roster in (
      omega (arith, shorter, same),
      λ some. omega (arith, shorter, same),
      ap (applied s 2) (later_lines c.args.text.now) ∙ ap (applied_left s 2 (length c.args.text.now)) (sym back),
    )

pub loop-rest-smaller : goal.loop-rest-smaller
loop-rest-smaller g c =
    omega (arith, behind_shorter 10 c.loop-rest.rest.now, ap length c.split-in-loop-rest.ensures.back, false-eqb _ 0 c.loop-rest-test.ensures)

pub loop-rest-preserved : goal.loop-rest-preserved
loop-rest-preserved g c =
    let some : 0 < length c.loop-rest.rest.now = omega (arith, false-eqb _ 0 c.loop-rest-test.ensures) in
    let back = c.split-in-loop-rest.ensures.back in
    let shorter = behind_shorter 10 c.loop-rest.rest.now in (
      omega (arith, c.loop-rest.invariant.0, shorter, ap length back),
      λ more. omega (arith, c.loop-rest.invariant.1 some, shorter, ap length back),
      c.loop-rest.invariant.2
          ∙ applied_more _ _ (c.loop-rest.line + 1) (length c.args.text.now) c.loop-rest.rest.now _ _ c.in_default.field-0
          (record { some = some; fits = c.loop-rest.invariant.0; first = c.split-in-loop-rest.ensures.front; answers = c.in_default.ensures.answer; leaves = c.put.ensures.after }) back,
    )

pub returns-in-Err : goal.returns-in-Err
returns-in-Err g c =
    let all =
    c.loop-rest.invariant.2
    ∙ applied_fault _ _ (c.loop-rest.line + 1) (length c.args.text.now) c.loop-rest.rest.now _ c.in-Err.cause
    (record { some = omega (arith, false-eqb _ 0 c.loop-rest-test.ensures); fits = c.loop-rest.invariant.0; first = c.split-in-loop-rest.ensures.front; answers = c.in-Err.ensures.answer; leaves = c.put.ensures.after }) in
    record { answer = sym (ap (λ a. a.answer) all); after = sym (ap (λ a. a.after) all) }

pub returns : goal.returns
returns g c =
    let all = c.loop-rest.invariant.2 ∙ applied_end _ _ _ c.loop-rest.rest.now (true-eqb _ 0 c.loop-rest-test.ensures) in
    record { answer = sym (ap (λ a. a.answer) all); after = sym (ap (λ a. a.after) all) }
