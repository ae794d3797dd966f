use Rattle.std.proofs.Common.{[], ◌∷◌, ◌++◌, subst}
use Rattle.std.specs.Prelude.{OnOk}
use Rattle.std.specs.Result.{result_err}
use Rattle.pz_io.specs.Writing.{Wrote}
use Rattle.pz_rules.specs.declared.action.Action.{Action}
use Rattle.pz_rules.specs.Runs.{acted}
use Rattle.pz_term_simulator.specs.Simulations.{model_in, clock_in}
use Rattle.pz_watch_points.specs.EventPoints.{points_of}
use Rattle.pz_watch_judging.specs.devices.Judging.{HasJudged}
use Rattle.pz_run_playing.specs.Sayings.{judged_line}
use Rattle.pz_run_playing.proofs.Written.{none_written}
use Rattle.pz_run_playing.proofs.hearing.judge_action.Goals as goal

pub returns-in_err-action-clause-wrote : goal.returns-in_err-action-clause-wrote
returns-in_err-action-clause-wrote g c = λ a ws past offer judged up. none_written c.rules_are_known.ensures _ _ c.from_residual.result c.from_residual.ensures.1

pub returns-clause-wrote : goal.returns-clause-wrote
returns-clause-wrote g c = λ a ws past offer judged up.
    let s = g.S.Simulator.simulation c.args.sim.now in
    subst (λ (b : Action). Wrote (g.W.Sink.state c.args.out.now) (g.W.Sink.state c.judge_offered.new.out) (judged_line (model_in s) ws past (acted (clock_in s) c.args.offers c.args.number b)) (result_err c.judge_offered.result))
    (c.rules_are_known.ensures.one_offer s c.args.number c.in_ok-action.action a c.in_ok-action.ensures offer) (c.judge_offered.ensures.wrote ws past judged up)

pub returns-clause-judged : goal.returns-clause-judged
returns-clause-judged g c = λ a ws past offer judged up.
    let s = g.S.Simulator.simulation c.args.sim.now in
    subst (λ (b : Action). OnOk c.judge_offered.result (HasJudged ws (points_of (model_in s) (past ++ acted (clock_in s) c.args.offers c.args.number b ∷ [])) c.judge_offered.new.watching))
    (c.rules_are_known.ensures.one_offer s c.args.number c.in_ok-action.action a c.in_ok-action.ensures offer) (c.judge_offered.ensures.judged ws past judged up)
