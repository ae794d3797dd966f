use Rattle.pz_debug_session.specs.Sessions.{stands_in, steps_in}
use Rattle.pz_debug_replies.specs.devices.Advanced.{message_of}
use Rattle.pz_debug_replies.proofs.Replied.{no_step, never_actions, never_time}
use Rattle.pz_debug_replies.proofs.advancing.go_on.Goals as goal

pub returns-in_default : goal.returns-in_default
returns-in_default g c =
    let s = stands_in g.E.Simulator.simulation c.args.session.now in
    no_step c.rules_are_known.ensures (message_of c.args.wanted) (steps_in c.args.session.now) s c.requires c.moment.result _ c.moment.ensures
    (never_actions c.moment.result c.in_default.not-Actions) (never_time c.moment.result c.in_default.not-Time)
