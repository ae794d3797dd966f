use Rattle.std.proofs.Common.{[], ◌∷◌, ap, ◌∙◌}
use Rattle.pz_classes_code.specs.declared.step.Step.{Step}
use Rattle.pz_classes_code.specs.StepView.{sequence_view}
use Rattle.pz_rules.specs.Opening.{opened_all}
use Rattle.pz_term_around.specs.pz_part_opening.Homes.{home_view}
use Rattle.pz_part_actions.proofs.Becomings.{goes_round}
use Rattle.pz_part_actions.proofs.Openings.{opens_low, opens_high, loop_high}
use Rattle.pz_part_actions.proofs.testing.go_round.Goals as goal

pub returns-in_ok-new-in-Ok-clause-opens : goal.returns-in_ok-new-in-Ok-clause-opens
returns-in_ok-new-in-Ok-clause-opens c =
    goes_round (home_view c.args.home.now) (sequence_view c.args.body.now) c.args.again.now c.again-rest.result c.in-Ok.first c.in_ok-new-in-Ok.field-0 c.args.state.now c.open_low.new.state (c.again-rest.ensures ∙ ap (λ (s : Step). s ∷ []) c.in_ok-copy-in-Ok.ensures) c.in_ok-new-in-Ok.ensures
    (opens_low c.args.here.now c.args.again.now.pos (opened_all (home_view c.args.home.now) (sequence_view c.args.body.now) c.args.state.now.held) c.args.state.now c.open_low.new.state c.in_ok-first.field-0 c.in-Ok.first c.in-Ok.is c.in_ok-first.ensures.opens)

pub returns-in-Err-clause-opens : goal.returns-in-Err-clause-opens
returns-in-Err-clause-opens c =
    let body = opened_all (home_view c.args.home.now) (sequence_view c.args.body.now) c.args.state.now.held in
    let high = opens_high c.args.here.now c.args.again.now.pos body c.args.state.now c.open_low.new.state c.in_ok-first.field-0 c.in-Err.trouble c.in-Err.is c.in_ok-first.ensures.opens in (
      loop_high c.args.here.now.limits.height body high.0,
      high.1,
    )
