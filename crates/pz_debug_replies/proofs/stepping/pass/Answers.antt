use Rattle.pz_debug_session.specs.Sessions.{stands_in, steps_in}
use Rattle.pz_debug_replies.proofs.Replied.{at_passing, at_steps, no_time}
use Rattle.pz_debug_replies.proofs.stepping.pass.Goals as goal

pub pass-requires : goal.pass-requires
pass-requires g c = record { low = c.requires.at.place.low }

pub returns-in-Ok-clause-at : goal.returns-in-Ok-clause-at
returns-in-Ok-clause-at g c =
    let s = stands_in g.E.Simulator.simulation c.args.session.now in
    let t = stands_in g.E.Simulator.simulation c.pass.new.self in
    at_steps _ (steps_in c.pass.new.self) t c.in-Ok.ensures.steps (at_passing c.rules_are_known.ensures (steps_in c.args.session.now) s t c.requires.at c.in-Ok.ensures.short c.in-Ok.ensures.setting c.in-Ok.ensures.ok)

pub unreachable-requires : goal.unreachable-requires
unreachable-requires g c =
    let other = rw c.in-Err-NotNow.field-0-is at c.in-Err-NotNow.ensures.not_now in
    no_time c.rules_are_known.ensures (stands_in g.E.Simulator.simulation c.args.session.now) c.requires.there.0 c.in-Err-NotNow.field-0-0 c.requires.there.1 other.0 other.1
