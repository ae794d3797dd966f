use Rattle.pz_io.specs.declared.writing.Halt.TheVariants.{NoMemory}
use Rattle.pz_trace.specs.Lines.{time_line}
use Rattle.pz_term_simulator.specs.Simulations.{clock_in}
use Rattle.pz_debug_session.specs.Sessions.{stands_in}
use Rattle.pz_debug_replies.proofs.Written.{halted_so, whole_written}
use Rattle.pz_debug_replies.proofs.stepping.let_pass.Goals as goal

pub returns-in_err-tell_passing-clause-wrote : goal.returns-in_err-tell_passing-clause-wrote
returns-in_err-tell_passing-clause-wrote g c = rw (halted_so c.from_residual.result c.in_err-tell_passing.field-0.0 c.from_residual.ensures.1) c.in_err-tell_passing.ensures

pub returns-in_err-pass-clause-wrote : goal.returns-in_err-pass-clause-wrote
returns-in_err-pass-clause-wrote g c =
    let s = stands_in g.E.Simulator.simulation c.args.session.now in
    rw (halted_so c.from_residual-in_err-pass.result NoMemory c.from_residual-in_err-pass.ensures.1)
    (whole_written c.rules_are_known.ensures _ _ (time_line (clock_in s) c.args.time) c.in_ok-tell_passing.ensures)
