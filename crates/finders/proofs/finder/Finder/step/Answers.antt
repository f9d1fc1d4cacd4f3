use Rattle.std.proofs.Common.{◌≡◌, ◌+◌, ◌*◌, ◌<◌, ◌≤◌, length, false, sym, refl, ap, ◌∙◌, subst, arith}
use Rattle.std.specs.Option.{option_map}
use Rattle.std.proofs.lemmas.List.{length_push}
use Rattle.tables.specs.Sides.{sides}
use Rattle.finders.specs.Finder.{finding, finished, fresh, stepped}
use Rattle.finders.specs.Found.{has_members, DifferentMembers}
use Rattle.finders.proofs.FoundLists.{different_push}
use Rattle.finders.proofs.Rule.{due_none, due_some, fresh_due, fresh_some, found_fits, steps_few, done_answer, done_after, idle_answer, idle_after, full_answer, full_after, added_answer, added_after}
use Rattle.finders.proofs.finder.Finder.step.Given as given
use Rattle.finders.proofs.finder.Finder.step.Goals as goal
use Rattle.finders.proofs.finder.Finder.step.Goals.{After-fresh}

pub returns-in_default : goal.returns-in_default
returns-in_default g c =
    let st = finding c.args.self.now in
    let limit = c.args.self.now.limit in
    let over = due_none _ st (sym c.wanted.ensures ∙ c.in_default.is) in
    record { answer = sym (done_answer _ st limit over); after = sym (done_after _ st limit over); limit = refl }

-- the step is not the last one
unfinished : (g : given.Over) (c : After-fresh g) → finished (g.T.Table.grid c.args.table.now) (finding c.args.self.now) ≡ false
unfinished g c = (due_some _ (finding c.args.self.now) _ (sym c.wanted.ensures ∙ c.in-Some.is)).0

-- it adds what is made of the members due
adds : (g : given.Over) (c : After-fresh g) → option_map sides c.fresh.result ≡ fresh (g.T.Table.grid c.args.table.now) (finding c.args.self.now)
adds g c = let st = finding c.args.self.now in fresh_due _ st _ _ (due_some _ st _ (sym c.wanted.ensures ∙ c.in-Some.is)).1 c.fresh.ensures

-- and has few steps before it
few : (g : given.Over) (c : After-fresh g) → c.args.self.now.worked + 1 ≤ 64 + 64 * 512
few g c = let f = c.args.self.now in steps_few _ (finding f) (g.met.T.Table.proper c.args.table.now) (found_fits f) (unfinished g c)

pub invariant_of-self : goal.invariant_of-self
invariant_of-self g c =
    let f = c.args.self.now in
    record { within_limit = f.within_limit; limit_fits = f.limit_fits; apart = f.apart; steps_fit = few g (goal.at.invariant_of-self g c).After-fresh }

pub returns-in_default-fresh : goal.returns-in_default-fresh
returns-in_default-fresh g c =
    let st = finding c.args.self.now in
    let limit = c.args.self.now.limit in
    let at = (goal.at.returns-in_default-fresh g c).After-fresh in
    let none = sym (adds g at) ∙ ap (option_map sides) c.in_default-fresh.is in
    record { answer = sym (idle_answer _ st limit (unfinished g at) none); after = sym (idle_after _ st limit (unfinished g at) none); limit = refl }

pub returns-then-len-crews : goal.returns-then-len-crews
returns-then-len-crews g c =
    let st = finding c.args.self.now in
    let at = (goal.at.returns-then-len-crews g c).After-fresh in
    let some = sym (adds g at) ∙ ap (option_map sides) c.in-Some-fresh.is in
    let len = c.len.ensures.count in
    let crews = c.crews.ensures.number in
    let limit = c.args.self.now.limit in
    let past = c.if-len-crews.true in
    let full : limit ≤ length st.found = omega arith in
    record { answer = sym (full_answer _ st limit (unfinished g at) _ some full); after = sym (full_after _ st limit (unfinished g at) _ some full); limit = refl }

pub invariant_of-self-2 : goal.invariant_of-self-2
invariant_of-self-2 g c =
    let f = c.args.self.now in
    let at = (goal.at.invariant_of-self-2 g c).After-fresh in
    let crew = sides c.in-Some-fresh.crew in
    let more = ap length c.push.ensures ∙ length_push f.found _ in
    let len = c.len.ensures.count in
    let crews = c.crews.ensures.number in
    let room = c.if-len-crews.false in
    let within : length c.push.new.self ≤ f.limit = omega arith in
    let adding = fresh_some _ (finding f) crew (sym (adds g at) ∙ ap (option_map sides) c.in-Some-fresh.is) in
    let unheld : has_members crew.0 f.found ≡ false = ap (λ d. has_members d.0 f.found) adding.crew ∙ adding.unheld in
    record { within_limit = within; limit_fits = f.limit_fits; apart = subst DifferentMembers (sym c.push.ensures) (different_push f.found crew f.apart unheld); steps_fit = few g at }

pub returns : goal.returns
returns g c =
    let st = finding c.args.self.now in
    let limit = c.args.self.now.limit in
    let at = (goal.at.returns g c).After-fresh in
    let some = sym (adds g at) ∙ ap (option_map sides) c.in-Some-fresh.is in
    let len = c.len.ensures.count in
    let crews = c.crews.ensures.number in
    let within = c.if-len-crews.false in
    let room : length st.found < limit = omega arith in
    record {
      answer = sym (added_answer _ st limit (unfinished g at) _ some room);
      after = ap (stepped st) c.push.ensures ∙ sym (added_after _ st limit (unfinished g at) _ some room);
      limit = refl;
    }
