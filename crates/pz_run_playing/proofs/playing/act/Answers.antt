use Rattle.pz_rules.specs.Runs.{acted}
use Rattle.pz_term_simulator.specs.Simulations.{model_in, clock_in}
use Rattle.pz_run_playing.specs.devices.Hearing.{saying}
use Rattle.pz_run_playing.proofs.Written.{halted_so, whole_written}
use Rattle.pz_run_playing.proofs.playing.act.Goals as goal

pub returns-in_err-hear_action-clause-wrote : goal.returns-in_err-hear_action-clause-wrote
returns-in_err-hear_action-clause-wrote g c = λ a manner past offer heard.
    rw (halted_so c.from_residual.result c.in_err-hear_action.field-0.0 c.from_residual.ensures.1)
    (c.in_err-hear_action.ensures.wrote a manner past offer heard)

pub returns-in-Err-NoMemory-clause-wrote : goal.returns-in-Err-NoMemory-clause-wrote
returns-in-Err-NoMemory-clause-wrote g c = λ a manner past offer heard.
    let s = g.S.Simulator.simulation c.args.sim.now in
    whole_written c.rules_are_known.ensures (g.W.Sink.state c.args.out.now) (g.W.Sink.state c.hear_action.new.out) (saying (model_in s) manner past (acted (clock_in s) c.args.offers c.args.number a))
    (c.in_ok-hear_action.ensures.wrote a manner past offer heard)
