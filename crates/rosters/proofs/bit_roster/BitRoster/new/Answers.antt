use Rattle.std.proofs.Common.{◌≡◌, ◌*◌, replicate, sym, ap, ◌∙◌, subst, ap₂}
use mathlib.Core.Path.{fun_ext}
use Rattle.rosters.specs.Kept.{Counted}
use Rattle.tables.specs.Sheet.{sheet}
use Rattle.rosters.proofs.Filing.{held_none, inside_none, mirrored_none, counted_none}
use Rattle.rosters.proofs.bit_roster.BitRoster.new.Goals as goal

pub invariant_of-result : goal.invariant_of-result
invariant_of-result c =
    let n = c.args.size.members in
    let m = c.args.size.slots in
    let same : c.from.result * c.from-2.result ≡ n * m = ap₂ ◌*◌ (c.from.ensures ∙ c.members.ensures) (c.from-2.ensures ∙ c.slots.ensures) in
    record { inside = inside_none n m 64; mirrored = mirrored_none 64; counted = subst (Counted n m (replicate 64 0)) (sym same) (counted_none n m 64) }

pub returns : goal.returns
returns c =
    let n = c.args.size.members in
    let m = c.args.size.slots in
    let same : c.from.result * c.from-2.result ≡ n * m = ap₂ ◌*◌ (c.from.ensures ∙ c.members.ensures) (c.from-2.ensures ∙ c.slots.ensures) in
    ap₂ sheet (ap (λ f. record { members = n; slots = m; marked = f }) (fun_ext (λ i. fun_ext (λ j. held_none 64 i j)))) same
