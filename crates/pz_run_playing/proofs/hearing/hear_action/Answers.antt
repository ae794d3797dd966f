use Rattle.std.proofs.Common.{refl}
use Rattle.std.specs.Result.{result_err}
use Rattle.pz_rules.specs.Runs.{acted}
use Rattle.pz_term_simulator.specs.Simulations.{model_in, clock_in}
use Rattle.pz_run_playing.proofs.Heard.{silent_says, silent_hears, line_says, line_hears, judged_says, judged_hears}
use Rattle.pz_run_playing.proofs.hearing.hear_action.Goals as goal

pub returns-in-Silent-clause-wrote : goal.returns-in-Silent-clause-wrote
returns-in-Silent-clause-wrote g c = λ a manner past offer heard.
    let s = g.S.Simulator.simulation c.args.sim.now in
    silent_says (model_in s) manner past (acted (clock_in s) c.args.offers c.args.number a) (clock_in s) refl c.args.listener.now heard c.rules_are_known.ensures c.in-Silent.is (g.W.Sink.state c.args.out.now)

pub returns-in-Silent-clause-heard : goal.returns-in-Silent-clause-heard
returns-in-Silent-clause-heard g c = λ a manner past offer heard.
    let s = g.S.Simulator.simulation c.args.sim.now in
    silent_hears (model_in s) manner past (acted (clock_in s) c.args.offers c.args.number a) (clock_in s) refl c.args.listener.now heard c.in-Silent.is

pub returns-in-Lines-clause-wrote : goal.returns-in-Lines-clause-wrote
returns-in-Lines-clause-wrote g c = λ a manner past offer heard.
    let s = g.S.Simulator.simulation c.args.sim.now in
    line_says (model_in s) manner past (acted (clock_in s) c.args.offers c.args.number a) (clock_in s) refl c.args.listener.now heard c.in-Lines.line c.in-Lines.is (g.W.Sink.state c.args.out.now) (g.W.Sink.state c.tell_action.new.out) (result_err c.tell_action.result) (c.tell_action.ensures a offer)

pub returns-in-Lines-clause-heard : goal.returns-in-Lines-clause-heard
returns-in-Lines-clause-heard g c = λ a manner past offer heard.
    let s = g.S.Simulator.simulation c.args.sim.now in
    line_hears (model_in s) manner past (acted (clock_in s) c.args.offers c.args.number a) (clock_in s) refl c.args.listener.now heard c.in-Lines.line c.tell_action.new.line c.tell_action.result c.in-Lines.is

pub returns-in-Watches-clause-wrote : goal.returns-in-Watches-clause-wrote
returns-in-Watches-clause-wrote g c = λ a manner past offer heard.
    let s = g.S.Simulator.simulation c.args.sim.now in
    judged_says (model_in s) manner past (acted (clock_in s) c.args.offers c.args.number a) (clock_in s) refl c.args.listener.now heard c.in-Watches.watching c.in-Watches.line c.in-Watches.is (g.W.Sink.state c.args.out.now) (g.W.Sink.state c.judge_action.new.out) (result_err c.judge_action.result)
    (λ ws judged up. c.judge_action.ensures.wrote a ws past offer judged up)

pub returns-in-Watches-clause-heard : goal.returns-in-Watches-clause-heard
returns-in-Watches-clause-heard g c = λ a manner past offer heard.
    let s = g.S.Simulator.simulation c.args.sim.now in
    judged_hears (model_in s) manner past (acted (clock_in s) c.args.offers c.args.number a) (clock_in s) refl c.args.listener.now heard c.in-Watches.watching c.judge_action.new.watching c.in-Watches.line c.judge_action.new.line c.judge_action.result c.in-Watches.is
    (λ ws judged up. c.judge_action.ensures.judged a ws past offer judged up)
