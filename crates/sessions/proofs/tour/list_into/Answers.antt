use Rattle.std.proofs.Common.{◌≡◌, ◌<◌, [], ◌∷◌, ◌++◌, map, length, take, drop, set, sym, refl, ap, ◌∙◌, ap₂, le_antisymm, add-one, arith, take_all, take-suc-set}
use mathlib.Core.List.{map-append}
use Rattle.std.specs.Option.{option_map}
use Rattle.tables.specs.Crews.{ahead, crews}
use Rattle.tables.specs.Firsts.{first, rest}
use Rattle.tables.specs.Sides.{sides}
use Rattle.tables.proofs.Crews.{crews_listed}
use Rattle.tables.proofs.CrewsAhead.{ahead_all}
use Rattle.sessions.specs.Tours.{in_turn}
use Rattle.sessions.proofs.Tours.{in_turn_more, drop_more, reaches_each}
use Rattle.sessions.proofs.tour.list_into.Given as given
use Rattle.sessions.proofs.tour.list_into.Goals as goal
use Rattle.sessions.proofs.tour.list_into.Goals.{After-next}

pub loop-place-init : goal.loop-place-init
loop-place-init g c =
    let grid = g.T.Table.grid c.rewind.new.self.table in
    (refl, refl, ap (ahead grid) c.rewind.ensures.start ∙ ahead_all grid, refl)

-- what is ahead when a turn begins, in terms of the table as it was
ahead_now : (g : given.Over) (c : After-next g) → ahead (g.T.Table.grid c.loop-place.session.table) c.loop-place.session.walk ≡ drop c.loop-place.place-index (crews (g.T.Table.grid c.rewind.new.self.table))
ahead_now g c = ap (λ t. ahead (g.T.Table.grid t) c.loop-place.session.walk) c.loop-place.invariant.0 ∙ c.loop-place.invariant.2

pub loop-place-preserved : goal.loop-place-preserved
loop-place-preserved g c =
    let grid = g.T.Table.grid c.rewind.new.self.table in
    let inv = c.loop-place.invariant in
    let k = c.loop-place.place-index in
    let within : k < length c.loop-place.places = omega arith in
    let now = ahead_now g (goal.at.loop-place-preserved g c).After-next in (
      cc,
      cc,
      ap (λ t. ahead (g.T.Table.grid t) c.next.new.self.walk) (sym inv.0) ∙ c.next.ensures.ahead ∙ ap rest now ∙ sym (drop_more k (crews grid)),
      ap (λ n. map (option_map sides) (take n (set c.loop-place.places k c.next.result))) (add-one k)
          ∙ ap (map (option_map sides)) (take-suc-set c.loop-place.places k c.next.result within)
          ∙ map-append (option_map sides) (take k c.loop-place.places) (c.next.result ∷ [])
          ∙ ap₂ (λ front last. front ++ (last ∷ [])) inv.3 (c.next.ensures.answer ∙ ap first now)
          ∙ sym (in_turn_more k (crews grid)),
    )

pub returns : goal.returns
returns g c =
    let inv = c.loop-place.invariant in
    let same : c.rewind.new.self.table ≡ c.args.session.now.table = c.rewind.ensures.table in
    let proper = g.met.T.Table.proper c.args.session.now.table in
    let n = length c.args.places.now in
    let end : c.loop-place.place-index ≡ n = le_antisymm c.loop-place.auto.place-index-end c.loop-place-test.false in
    let grid = ap g.T.Table.grid same in
    let answers =
    sym (ap (map (option_map sides)) (take_all c.loop-place.place-index c.loop-place.places (omega arith)))
    ∙ inv.3 ∙ ap₂ (λ k t. in_turn k (crews t)) end grid in
    record {
      answers = answers;
      left = ap (λ t. ahead t c.loop-place.session.walk) (sym grid) ∙ inv.2 ∙ ap₂ (λ k t. drop k (crews t)) end grid;
      every_crew_is_reached = reaches_each _ n _ answers;
      crews_are_listed = crews_listed _ proper;
      table = inv.0 ∙ same;
      finder = inv.1 ∙ c.rewind.ensures.finder;
    }
