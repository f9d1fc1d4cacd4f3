use Rattle.std.proofs.Common.{◌≡◌, ◌++◌, take, drop, replicate, vec_items, sym, ap, ◌∙◌, arith}
use Rattle.std.specs.List.{flat_map}
use Rattle.tables.specs.Crews.{ahead}
use Rattle.rosters.specs.Rosters.{bit_grid}
use Rattle.tables.specs.Firsts.{first, rest}
use Rattle.tables.specs.Sides.{sides}
use Rattle.sessions.proofs.Tours.{drop_more}
use Rattle.prints.specs.Prints.{crew_line}
use Rattle.cards.proofs.Shown.{printed, some_left, lines_more, ended, going_on}
use Rattle.cards.proofs.answer.show_ahead.Goals as goal

pub returns-in_default : goal.returns-in_default
returns-in_default c =
    let l = c.loop-shown in
    let is = c.in_default.ensures.answer ∙ ap first l.invariant.1 in
    let end = ended l.shown _ (omega arith) l.invariant.0 is in
    (end.0, l.invariant.2 ∙ ap (λ b. vec_items c.args.answer.now ++ b) end.1)

pub loop-shown-preserved : goal.loop-shown-preserved
loop-shown-preserved c =
    let l = c.loop-shown in
    let crew = c.in-Some.crew in
    let cs = ahead (bit_grid c.args.listing.now.table) c.args.listing.now.walk in
    let is = c.in-Some.ensures.answer ∙ ap first l.invariant.1 in
    let line = printed (crew_line (sides crew)) (replicate 366 0) _ c.in-Ok.count c.in-Ok.ensures.answer c.in-Ok.ensures.after in (
      omega (arith, some_left l.shown cs (sides crew) is),
      ap (λ t. ahead (bit_grid t) c.next.new.self.walk) c.next.ensures.table
          ∙ c.next.ensures.ahead
          ∙ ap rest l.invariant.1
          ∙ sym (drop_more l.shown cs),
      c.in_ok-extend_from_slice.ensures.items ∙ (λ i. l.invariant.2 i ++ line.1 i) ∙ lines_more (vec_items c.args.answer.now) l.shown cs (sides crew) is,
    )

pub returns-in-Some-next : goal.returns-in-Some-next
returns-in-Some-next c =
    let l = c.loop-shown in
    let cs = ahead (bit_grid c.args.listing.now.table) c.args.listing.now.walk in
    let all : l.shown ≡ 512 = omega arith in
    let is = c.in-Some-next.ensures.answer ∙ ap first l.invariant.1 ∙ ap (λ k. first (drop k cs)) all in
    (going_on cs _ is, l.invariant.2 ∙ ap (λ k. vec_items c.args.answer.now ++ flat_map crew_line (take k cs)) all)

pub returns-in-None : goal.returns-in-None
returns-in-None c =
    let l = c.loop-shown in
    let cs = ahead (bit_grid c.args.listing.now.table) c.args.listing.now.walk in
    let all : l.shown ≡ 512 = omega arith in
    let is = c.in-None.ensures.answer ∙ ap first l.invariant.1 ∙ ap (λ k. first (drop k cs)) all in
    ((ended 512 cs (omega arith) (omega (arith, l.invariant.0)) is).0, l.invariant.2 ∙ ap (λ k. vec_items c.args.answer.now ++ flat_map crew_line (take k cs)) all)
