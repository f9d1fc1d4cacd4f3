use Rattle.std.proofs.Common.{◌≡◌, ◌++◌, take, replicate, vec_items, ap, ◌∙◌, append_assoc, rules}
use Rattle.tables.specs.Crews.{ahead, crews}
use Rattle.rosters.specs.Rosters.{bit_grid}
use Rattle.tables.proofs.CrewsAhead.{ahead_all}
use Rattle.prints.specs.Prints.{tail_line}
use Rattle.cards.specs.Shown.{ending, crew_lines, crews_text}
use Rattle.cards.proofs.Shown.{printed}
use Rattle.cards.proofs.answer.show_crews.Goals as goal

pub returns : goal.returns
returns c =
    let cs = crews (bit_grid c.args.session.roster) in
    let start : ahead (bit_grid c.close-listing.result.table) c.close-listing.result.walk ≡ cs =
    (λ i. ahead (bit_grid (c.close-listing.ensures.table i)) (c.close-listing.ensures.start i)) ∙ ahead_all (bit_grid c.args.session.roster) in
    let lines = c.in_ok-ending.ensures in
    let ends : c.in_ok-ending.ending ≡ ending cs = lines.0 ∙ ap ending start in
    let last = printed (tail_line c.in_ok-ending.ending) (replicate 25 0) _ c.in-Ok-tail.count c.in-Ok-tail.ensures.answer c.in-Ok-tail.ensures.after in
    let text : vec_items c.show_ahead.new.answer ++ take c.in-Ok-tail.count c.tail.new.buffer ≡ vec_items c.args.answer.now ++ crews_text cs =
    (λ i. (lines.1 ∙ ap (λ l. vec_items c.args.answer.now ++ crew_lines l) start) i ++ (last.1 ∙ ap tail_line ends) i)
    ∙ append_assoc (vec_items c.args.answer.now) (crew_lines cs) (tail_line (ending cs)) in
    search (rules, text)
