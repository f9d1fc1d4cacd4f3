use Rattle.std.proofs.Common.{◌≡◌, ℕ, ◌&&◌, eqb, ltb, ap₂}
use Rattle.std.proofs.lemmas.Bool.Decides.{Decides-at}
use Rattle.tables.specs.Crews.{is_crew}
use Rattle.tables.proofs.Biclique.{crews_are_maximal_bicliques}
use Rattle.tables.proofs.bicliques.is_maximal_biclique.Goals as goal

pub returns : goal.returns
unfolding is_crew
returns g c =
    let x = c.args.members in
    let y = c.args.slots in
    let grid = g.T.Table.grid c.args.table.now in
    let tested = (ltb 0 x && ltb 0 y) && (eqb y c.common_slots-common.result && eqb x c.common_members-sharing.result) in
    let crew : tested ≡ is_crew grid x y = ap₂ (λ (s m : ℕ). (ltb 0 x && ltb 0 y) && (eqb y s && eqb x m)) c.common_slots-common.ensures c.common_members-sharing.ensures in
    record {
      crew = crew;
      biclique = Decides-at tested (is_crew grid x y) crew (crews_are_maximal_bicliques grid (g.met.T.Table.proper c.args.table.now) x y);
    }
