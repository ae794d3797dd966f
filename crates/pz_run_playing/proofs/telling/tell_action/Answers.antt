use Rattle.std.proofs.Common.{subst}
use Rattle.std.specs.Result.{result_err}
use Rattle.pz_io.specs.Writing.{Wrote}
use Rattle.pz_rules.specs.declared.action.Action.{Action}
use Rattle.pz_watch_points.specs.pz_trace.Lines.{action_line}
use Rattle.pz_term_simulator.specs.Simulations.{model_in, clock_in}
use Rattle.pz_run_playing.proofs.Written.{none_written}
use Rattle.pz_run_playing.proofs.telling.tell_action.Goals as goal

pub returns-in_err-action : goal.returns-in_err-action
returns-in_err-action g c = λ a offer. none_written c.rules_are_known.ensures _ _ c.from_residual.result c.from_residual.ensures.1

pub returns : goal.returns
returns g c = λ a offer.
    let s = g.S.Simulator.simulation c.args.sim.now in
    subst (λ (b : Action). Wrote (g.W.Sink.state c.args.out.now) (g.W.Sink.state c.tell_offered.new.out) (action_line (model_in s) (clock_in s) c.args.offers c.args.number b) (result_err c.tell_offered.result))
    (c.rules_are_known.ensures.one_offer s c.args.number c.in_ok-action.action a c.in_ok-action.ensures offer) c.tell_offered.ensures
