use Rattle.std.proofs.Common.{rules, ◌≡◌, ℕ, ◌<◌, get_or, sym, refl, subst₂, tests, arith}
use Rattle.tables.specs.Filed.{Inside}
use Rattle.tables.specs.Grid.{slot_word}
use Rattle.walks.proofs.Reading.{read_inside, read_grid, made_from}
use Rattle.walks.proofs.rows.Rows.read.Given as given
use Rattle.walks.proofs.rows.Rows.read.Goals as goal
use Rattle.walks.proofs.rows.Rows.read.Goals.{After-from_fn}

-- each word that was read is that of its member
read : (g : given.Over) (c : After-from_fn g) → (i : ℕ) → i < 64 → get_or c.from_fn.result i 0 ≡ slot_word (g.T.Table.grid c.args.table.now) i
read g c i l = made_from _ _ (slot_word (g.T.Table.grid c.args.table.now)) (λ x y q k. search (rules, tests)) 64 0 _ c.from_fn.result refl c.from_fn.ensures.items.each i (omega arith) (omega arith)

pub invariant_of-result : goal.invariant_of-result
invariant_of-result g c =
    let inside = read_inside _ (g.met.T.Table.proper c.args.table.now) c.from_fn.result c.from_fn.ensures.items.long (read g (goal.at.invariant_of-result g c).After-from_fn) in
    record { inside = subst₂ (λ n m. Inside n m c.from_fn.result) (sym c.of.ensures.members) (sym c.of.ensures.slots) inside }

pub returns : goal.returns
returns g c =
    read_grid _ (g.met.T.Table.proper c.args.table.now) c.from_fn.result c.from_fn.ensures.items.long (read g (goal.at.returns g c).After-from_fn) _ _ c.of.ensures.members c.of.ensures.slots
