use Rattle.std.proofs.Common.{◌≡◌, ◌+◌, ◌-◌, ◌≤◌, ◌++◌, length, take, IfSome, sym, ap, ◌∙◌, subst, ⊎_elim, arith}
use Rattle.std.specs.Io.KnownBytes.{Consumes}
use Rattle.std.proofs.KnownBytes.{Consumes-nil, Consumes-trans}
use Rattle.std.proofs.lemmas.Bool.{cases_lt}
use Rattle.std.proofs.lemmas.List.{length-take-le}
use borrow.Rule.Slice.PartMut.{post_of}
use Rattle.crews.proofs.Reading.{full, ended, read_more}
use Rattle.crews.proofs.fill.Goals as goal
use Rattle.crews.proofs.fill.Goals.{else-loop-test, then-loop-test+in_ok-more+then-more-eq0}

pub loop-init : goal.loop-init
loop-init g c = (omega arith, omega arith, Consumes-nil (g.R.Read.remaining c.args.input))

pub slice_bounds-read-count : goal.slice_bounds-read-count
slice_bounds-read-count g c = c.loop.invariant.0

pub loop-preserved : goal.loop-preserved
loop-preserved g c =
    let i = c.loop.invariant in
    let more = c.in_ok-more.ensures in
    let long = length-take-le c.loop.count c.loop.card i.0 in
    let read = read_more (take c.loop.count c.loop.card) c.read.new.buf (post_of c.loop.count (length c.loop.card - c.loop.count) c.loop.card) c.in_ok-more.more (c.loop.count + c.in_ok-more.more) more.bound.0 (omega arith) in (
      read.0,
      omega (arith, i.1, c.if-more-eq0.false),
      subst (Consumes (g.R.Read.remaining c.args.input) (g.R.Read.remaining c.read.new.self)) (sym read.1)
          (Consumes-trans (g.R.Read.remaining c.args.input) (g.R.Read.remaining c.loop.input) (g.R.Read.remaining c.read.new.self) _ _ i.2 more.bytes.0),
    )

pub returns-clause-within : goal.returns-clause-within
returns-clause-within g c = omega (arith, c.loop.invariant.0, c.loop.auto.card)

pub returns-clause-bytes : goal.returns-clause-bytes
returns-clause-bytes g c =
    let i = c.loop.invariant in
    let room = length c.args.card.now in
    let fits : c.loop.count ≤ room = omega (arith, i.0, c.loop.auto.card) in
    let long = length-take-le c.loop.count c.loop.card i.0 in
    elim c.loop-test.branch [
      | else-loop-test w ↦
          subst (λ card. IfSome (g.R.Read.remaining c.args.input) (λ xs. take c.loop.count card ≡ take room xs)) (sym w.card-is)
          (full (g.R.Read.remaining c.args.input) (g.R.Read.remaining c.loop.input) (take c.loop.count c.loop.card) room i.2 (omega (arith, i.1, w.loop-test.false)))
      | then-loop-test+in_ok-more+then-more-eq0 w ↦
          let more = w.in_ok-more.ensures in
          let front = take c.loop.count c.loop.card in
          let read = read_more front w.read.new.buf (post_of c.loop.count (length c.loop.card - c.loop.count) c.loop.card) w.in_ok-more.more c.loop.count more.bound.0 (omega arith) in
          let came = Consumes-trans (g.R.Read.remaining c.args.input) (g.R.Read.remaining c.loop.input) (g.R.Read.remaining w.read.new.self) _ _ i.2 more.bytes.0 in
          let all : length (front ++ take w.in_ok-more.more w.read.new.buf) ≡ c.loop.count = ap length (sym read.1) ∙ length-take-le c.loop.count _ read.0 in
          subst (λ bs. IfSome (g.R.Read.remaining c.args.input) (λ xs. bs ≡ take room xs)) (sym (ap (take c.loop.count) w.card-is ∙ read.1))
          (⊎_elim
          (λ some. ended (g.R.Read.remaining c.args.input) (g.R.Read.remaining w.read.new.self) _ room came (omega arith) (more.bytes.1 w.if-more-eq0.true (omega (arith, w.read.auto.buf, c.loop.auto.card))))
          (λ none. full (g.R.Read.remaining c.args.input) (g.R.Read.remaining w.read.new.self) _ room came (omega arith))
          (cases_lt c.loop.count room))
    ]
