use Rattle.std.proofs.Common.{List, ◌<◌, ◌≤◌, refl, sym, subst, ◌∙◌, arith}
use Rattle.pz_classes_code.specs.declared.step.Step.{Step}
use Rattle.pz_classes_code.specs.StepView.{sequence_view}
use Rattle.pz_rules.specs.Terms.{Term, height}
use Rattle.pz_rules.specs.Opening.{opened_all}
use Rattle.pz_term_around.specs.pz_part_opening.Homes.{home_view}
use Rattle.pz_part_actions.proofs.opening.open_low.Goals as goal

pub returns-then-stays_within-limit-clause-opens : goal.returns-then-stays_within-limit-clause-opens
returns-then-stays_within-limit-clause-opens c =
    let high : c.args.here.now.limits.height < height (opened_all (home_view c.args.home.now) (sequence_view c.as_slice.result.now) c.args.state.now.held).term =
    omega (arith, c.from-limit.ensures, c.stays_within.ensures c.args.state.now.held, c.if-stays_within-limit.true) in (
      subst (λ (steps : List Step). c.args.here.now.limits.height < height (opened_all (home_view c.args.home.now) (sequence_view steps) c.args.state.now.held).term) (c.as_slice.ensures ∙ c.get.ensures) high,
      refl,
    )

pub returns-clause-low : goal.returns-clause-low
returns-clause-low c =
    let low : height (opened_all (home_view c.args.home.now) (sequence_view c.as_slice.result.now) c.args.state.now.held).term ≤ c.args.here.now.limits.height =
    omega (arith, c.from-limit.ensures, c.stays_within.ensures c.args.state.now.held, c.if-stays_within-limit.false) in
    subst (λ (t : Term). height t ≤ c.args.here.now.limits.height) (sym c.in_ok-open_all.ensures.opened.term)
    (subst (λ (steps : List Step). height (opened_all (home_view c.args.home.now) (sequence_view steps) c.args.state.now.held).term ≤ c.args.here.now.limits.height) (c.as_slice.ensures ∙ c.get.ensures) low)
