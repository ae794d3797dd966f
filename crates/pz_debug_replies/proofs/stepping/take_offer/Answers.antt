use Rattle.pz_io.specs.declared.writing.Halt.TheVariants.{NoMemory}
use Rattle.pz_trace.specs.Lines.{action_line}
use Rattle.pz_term_simulator.specs.Simulations.{model_in, clock_in}
use Rattle.pz_debug_session.specs.Sessions.{stands_in}
use Rattle.pz_debug_replies.proofs.Written.{halted_so, whole_written}
use Rattle.pz_debug_replies.proofs.stepping.take_offer.Goals as goal

pub returns-in_err-tell_taken-clause-wrote : goal.returns-in_err-tell_taken-clause-wrote
returns-in_err-tell_taken-clause-wrote g c = rw (halted_so c.from_residual.result c.in_err-tell_taken.field-0.0 c.from_residual.ensures.1) c.in_err-tell_taken.ensures

pub returns-in_err-pick-clause-wrote : goal.returns-in_err-pick-clause-wrote
returns-in_err-pick-clause-wrote g c =
    let s = stands_in g.E.Simulator.simulation c.args.session.now in
    rw (halted_so c.from_residual-in_err-pick.result NoMemory c.from_residual-in_err-pick.ensures.1)
    (whole_written c.rules_are_known.ensures _ _ (action_line (model_in s) (clock_in s) c.args.offers c.args.number c.args.action.now) c.in_ok-tell_taken.ensures)
