use Rattle.std.proofs.Common.{subst}
use Rattle.std.proofs.lemmas.Result.{IfOk-weaker}
use Rattle.pz_bind.specs.pz_classes.CheckedView.{checked_model}
use Rattle.pz_term_processes.specs.pz_rules.declared.limits.Limits.{Limits}
use Rattle.pz_term_processes.specs.Standing.{setting_of}
use Rattle.pz_sim.specs.pz_term_simulator.Simulations.{Starts}
use Rattle.pz_debug_session.specs.Sessions.{stands_in}
use Rattle.pz_debug.specs.Output.{setting_for}
use Rattle.pz_debug.proofs.sessions.start.Goals as goal

pub returns-in-Ok-clause-starts : goal.returns-in-Ok-clause-starts
returns-in-Ok-clause-starts g c =
    IfOk-weaker c.start.result
    (λ session. Starts (setting_of (checked_model c.args.checked) c.session_limits.result) (stands_in g.E.Simulator.simulation session))
    (λ session. Starts (setting_for (checked_model c.args.checked)) (stands_in g.E.Simulator.simulation session))
    (λ session is. subst (λ (l : Limits). Starts (setting_of (checked_model c.args.checked) l) (stands_in g.E.Simulator.simulation session)) c.session_limits.ensures is) c.start.ensures.starts
