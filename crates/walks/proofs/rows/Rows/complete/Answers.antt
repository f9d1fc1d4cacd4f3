use Rattle.std.proofs.Common.{rules, ◌≡◌, ◌+◌, ◌-◌, fold, refl, ap, ◌∙◌, tests, arith}
use Rattle.std.specs.List.{range_with_len}
use Rattle.std.proofs.lemmas.Iterator.{YieldsList-from_range}
use Rattle.std.proofs.lemmas.Iterator.Consumers.{fold_from_yields_List}
use Rattle.tables.specs.Sides.{crew_of}
use Rattle.tables.specs.Walk.{pass}
use Rattle.walks.specs.Rows.{rows_grid}
use Rattle.walks.proofs.Walking.{joined, pass_joined}
use Rattle.walks.proofs.rows.Rows.complete.Goals as goal

pub returns : goal.returns
returns c =
    let r = c.args.self.now in
    let g = rows_grid r in
    let i = c.args.i in
    let p = c.args.front in
    let n = c.members.result - (i + 1) in
    let members = c.members.ensures in
    let within = c.requires.within in
    let fits = r.size.members_fit in
    let last : i + 1 + n ≡ r.size.members = omega arith in
    let folded = fold_from_yields_List _ (joined g i p) _ _ c.fold-members.ensures.ran (YieldsList-from_range (i + 1) c.members.result n refl refl) (λ a x b q k. search (rules, tests)) in
    let passed = folded ∙ ap (λ y. fold (joined g i p) (p, y) (range_with_len (i + 1) n)) c.requires.shared ∙ pass_joined g i p n (omega arith) ∙ ap (pass g i p) last in
    c.new.ensures ∙ ap (λ s. crew_of s.0 s.1) passed
