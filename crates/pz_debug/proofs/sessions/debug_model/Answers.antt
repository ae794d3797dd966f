use Rattle.std.proofs.Common.{inr}
use Rattle.pz_bind.specs.pz_classes.CheckedView.{checked_model}
use Rattle.pz_debug_session.specs.Sessions.{steps_in, stands_in}
use Rattle.pz_debug.specs.Output.{setting_for, PrintsSession}
use Rattle.pz_debug.proofs.Sayings.{nothing}
use Rattle.pz_debug.proofs.Started.{is_at, setting_is}
use Rattle.pz_debug.proofs.sessions.debug_model.Goals as goal

pub debug_session-requires-clause-at : goal.debug_session-requires-clause-at
debug_session-requires-clause-at g c =
    is_at c.sessions_go_on.ensures.low_start (checked_model c.args.checked) (steps_in c.in-Ok.session) (stands_in g.E.Simulator.simulation c.in-Ok.session) c.in-Ok.ensures.steps c.requires.sound c.requires.opens c.in-Ok.ensures.starts

pub returns-in-Ok : goal.returns-in-Ok
returns-in-Ok g c = inr (c.debug_session.ensures (checked_model c.args.checked) (setting_is (setting_for (checked_model c.args.checked)) (stands_in g.E.Simulator.simulation c.in-Ok.session) c.in-Ok.ensures.starts))

pub returns-in-Err : goal.returns-in-Err
returns-in-Err g c = nothing (PrintsSession (checked_model c.args.checked) c.args.commands.now) _
