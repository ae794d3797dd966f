use Rattle.std.proofs.lemmas.Result.{IfOk-weaker}
use Rattle.pz_classes_code.specs.StepView.{sequence_view}
use Rattle.pz_term_around.specs.pz_part_opening.Homes.{home_view}
use Rattle.pz_part_actions.proofs.Calls.{frame_entered}
use Rattle.pz_part_actions.proofs.calling.enter.Goals as goal

pub returns-clause-opens : goal.returns-clause-opens
returns-clause-opens c =
    IfOk-weaker c.round.result _ _
    (λ left opens.
    frame_entered (home_view c.args.home.now) c.args.state.now c.open_frame.new.self c.set_inputs.new.state c.in_ok-frame.frame.0 c.args.method.locals c.len-count.result c.args.results.now
    (sequence_view c.args.method.steps.now) c.args.inputs c.into_vec.result.items c.in_ok-frame.ensures.least c.in_ok-frame.ensures.ok c.into_vec.ensures c.len-count.ensures c.in_ok-set_inputs.ensures
    c.args.here.now c.args.pos c.round.new.state left opens)
    c.round.ensures.opens
