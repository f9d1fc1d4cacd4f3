use Rattle.std.proofs.Common.{◌≡◌, Ok, sym, refl, ap, ◌∙◌, ap₂, arith}
use Rattle.finders.specs.Finder.{finding, reached, step_answer, after_step}
use Rattle.finders.specs.declared.finder.Step.TheVariants.{Worked, Done}
use Rattle.sessions.proofs.Runs.{rule_stands, reached_none, worked_reached, ended_done, ended_refused}
use Rattle.sessions.proofs.listing.Listing.find_all.Goals as goal
use Rattle.sessions.proofs.listing.Listing.find_all.Goals.{After-step}

module _ (g : _) (c : After-step g) where
  same_table : c.loop-listing.listing.table ≡ c.args.table
  same_table = c.loop-listing.invariant.0 ∙ c.browse-listing.ensures.table

  same_limit : c.loop-listing.listing.finder.limit ≡ c.args.limit
  same_limit = c.loop-listing.invariant.2 ∙ c.browse-listing.ensures.limit

  -- the state before the step is the rule's after so many steps
  ruled : finding c.loop-listing.listing.finder ≡ reached (g.T.Table.grid c.args.table) c.args.limit c.loop-listing.listing.finder.worked
  ruled =
      c.loop-listing.invariant.3
      ∙ ap₂ (λ t l. reached (g.T.Table.grid t) l c.loop-listing.listing.finder.worked) c.browse-listing.ensures.table c.browse-listing.ensures.limit

  -- the step that was made and what it answered, on the table and the limit that were given
  made : finding c.step.new.self.finder ≡ after_step (g.T.Table.grid c.args.table) c.args.limit (finding c.loop-listing.listing.finder)
  made = c.step.ensures.after ∙ ap₂ (λ t l. after_step (g.T.Table.grid t) l (finding c.loop-listing.listing.finder)) same_table same_limit

  told : step_answer (g.T.Table.grid c.loop-listing.listing.table) c.loop-listing.listing.finder.limit (finding c.loop-listing.listing.finder) ≡ step_answer (g.T.Table.grid c.args.table) c.args.limit (finding c.loop-listing.listing.finder)
  told = ap₂ (λ t l. step_answer (g.T.Table.grid t) l (finding c.loop-listing.listing.finder)) same_table same_limit

pub loop-listing-init : goal.loop-listing-init
loop-listing-init g c =
    let begins = c.browse-listing.ensures.beginning in
    (refl, refl, refl, begins ∙ sym (reached_none _ _ c.browse-listing.result.finder.worked (ap (λ s. s.steps) begins)))

pub loop-listing-smaller : goal.loop-listing-smaller
loop-listing-smaller g c =
    let d = (goal.at.loop-listing-smaller g c).After-step in
    let told = c.in-Ok-Worked.ensures.answer ∙ told g d in
    let answer : Ok Worked ≡ step_answer (g.T.Table.grid c.args.table) c.args.limit (finding c.loop-listing.listing.finder) = cc in
    let worked = (worked_reached _ c.args.limit _ (finding c.step.new.self.finder) (ruled g d) (made g d) answer).1 in
    let fits = c.step.new.self.finder.steps_fit in
    omega arith

pub loop-listing-preserved : goal.loop-listing-preserved
loop-listing-preserved g c =
    let d = (goal.at.loop-listing-preserved g c).After-step in
    let told = c.in-Ok-Worked.ensures.answer ∙ told g d in
    let answer : Ok Worked ≡ step_answer (g.T.Table.grid c.args.table) c.args.limit (finding c.loop-listing.listing.finder) = cc in
    let rule = (worked_reached _ c.args.limit _ (finding c.step.new.self.finder) (ruled g d) (made g d) answer).0 in (
      c.step.ensures.table ∙ c.loop-listing.invariant.0,
      c.step.ensures.walk ∙ c.loop-listing.invariant.1,
      c.step.ensures.limit ∙ c.loop-listing.invariant.2,
      rule ∙ sym (ap₂ (λ t l. reached (g.T.Table.grid t) l c.step.new.self.finder.worked) c.browse-listing.ensures.table c.browse-listing.ensures.limit),
    )

pub returns-in-Ok-Done : goal.returns-in-Ok-Done
returns-in-Ok-Done g c =
    let d = (goal.at.returns-in-Ok-Done g c).After-step in
    let proper = g.met.T.Table.proper c.args.table in
    let told = c.in-Ok-Done.ensures.answer ∙ told g d in
    let answer : Ok Done ≡ step_answer (g.T.Table.grid c.args.table) c.args.limit (finding c.loop-listing.listing.finder) = cc in
    record {
      table = c.step.ensures.table ∙ same_table g d;
      start = c.step.ensures.walk ∙ c.loop-listing.invariant.1 ∙ c.browse-listing.ensures.start;
      limit = c.step.ensures.limit ∙ same_limit g d;
      all = ended_done _ proper c.args.limit _ (ruled g d) (finding c.step.new.self.finder) (made g d) answer;
      rule = rule_stands _ proper c.args.limit;
    }

pub returns-in-Err : goal.returns-in-Err
returns-in-Err g c =
    let d = (goal.at.returns-in-Err g c).After-step in
    let proper = g.met.T.Table.proper c.args.table in
    record {
      table = c.step.ensures.table ∙ same_table g d;
      start = c.step.ensures.walk ∙ c.loop-listing.invariant.1 ∙ c.browse-listing.ensures.start;
      limit = c.step.ensures.limit ∙ same_limit g d;
      all = ended_refused _ proper c.args.limit _ (ruled g d) (finding c.step.new.self.finder) c.in-Err.refusal (made g d) (c.in-Err.ensures.answer ∙ told g d);
      rule = rule_stands _ proper c.args.limit;
    }
