use Rattle.std.proofs.Common.{ℕ, [], ◌∷◌, ◌++◌, Some, None, subst}
use Rattle.pz_io.specs.Writing.{Wrote}
use Rattle.pz_rules.specs.Runs.{passed}
use Rattle.pz_term_simulator.specs.Simulations.{model_in, clock_in}
use Rattle.pz_run_playing.specs.devices.Hearing.{saying, HasHeard}
use Rattle.pz_run_playing.proofs.Simulated.{no_time, clock_of_time}
use Rattle.pz_run_playing.proofs.Written.{halted_so, whole_written}
use Rattle.pz_run_playing.proofs.playing.pass.Goals as goal

pub unreachable-requires : goal.unreachable-requires
unreachable-requires g c =
    let other = rw c.in-Err-NotNow.field-0-is at c.in-Err-NotNow.ensures.not_now in
    no_time c.rules_are_known.ensures.one_moment_of (g.S.Simulator.simulation c.args.sim.now) c.args.time c.in-Err-NotNow.field-0-0 c.requires.moment other.0 other.1

pub returns-in_err-hear_passing-clause-wrote : goal.returns-in_err-hear_passing-clause-wrote
returns-in_err-hear_passing-clause-wrote g c = λ manner past heard.
    let s = g.S.Simulator.simulation c.args.sim.now in
    let same = clock_of_time s c.args.time c.clock.result c.requires.moment c.clock.ensures in
    rw (halted_so c.from_residual.result c.in_err-hear_passing.field-0.0 c.from_residual.ensures.1)
    (subst (λ (n : ℕ). HasHeard (model_in s) manner past n c.args.listener.now → Wrote (g.W.Sink.state c.args.out.now) (g.W.Sink.state c.hear_passing.new.out) (saying (model_in s) manner past (passed n c.args.time)) (Some c.in_err-hear_passing.field-0.0))
    same (c.in_err-hear_passing.ensures.wrote (model_in s) manner past) heard)

pub returns-in-Ok-clause-wrote : goal.returns-in-Ok-clause-wrote
returns-in-Ok-clause-wrote g c = λ manner past heard.
    let s = g.S.Simulator.simulation c.args.sim.now in
    let same = clock_of_time s c.args.time c.clock.result c.requires.moment c.clock.ensures in
    subst (λ (n : ℕ). HasHeard (model_in s) manner past n c.args.listener.now → Wrote (g.W.Sink.state c.args.out.now) (g.W.Sink.state c.hear_passing.new.out) (saying (model_in s) manner past (passed n c.args.time)) None)
    same (c.in_ok-hear_passing.ensures.wrote (model_in s) manner past) heard

pub returns-in-Ok-clause-heard : goal.returns-in-Ok-clause-heard
returns-in-Ok-clause-heard g c = λ manner past heard.
    let s = g.S.Simulator.simulation c.args.sim.now in
    let same = clock_of_time s c.args.time c.clock.result c.requires.moment c.clock.ensures in
    subst (λ (n : ℕ). HasHeard (model_in s) manner past n c.args.listener.now → HasHeard (model_in s) manner (past ++ passed n c.args.time ∷ []) n c.hear_passing.new.listener)
    same (c.in_ok-hear_passing.ensures.heard (model_in s) manner past) heard

pub returns-in-Err-NoMemory-clause-wrote : goal.returns-in-Err-NoMemory-clause-wrote
returns-in-Err-NoMemory-clause-wrote g c = λ manner past heard.
    let s = g.S.Simulator.simulation c.args.sim.now in
    let same = clock_of_time s c.args.time c.clock.result c.requires.moment c.clock.ensures in
    whole_written c.rules_are_known.ensures (g.W.Sink.state c.args.out.now) (g.W.Sink.state c.hear_passing.new.out) (saying (model_in s) manner past (passed (clock_in s) c.args.time))
    (subst (λ (n : ℕ). HasHeard (model_in s) manner past n c.args.listener.now → Wrote (g.W.Sink.state c.args.out.now) (g.W.Sink.state c.hear_passing.new.out) (saying (model_in s) manner past (passed n c.args.time)) None)
    same (c.in_ok-hear_passing.ensures.wrote (model_in s) manner past) heard)
