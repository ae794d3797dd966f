use Rattle.pz_debug_session.specs.Sessions.{stands_in, steps_in}
use Rattle.pz_debug_replies.specs.devices.Advanced.{message_of, OnTheWay}
use Rattle.pz_debug_replies.proofs.advancing.advance.Given as goal

abbrev pub invariant-loop-step : goal.invariant-loop-step
invariant-loop-step g l =
    OnTheWay (message_of l.wanted) (steps_in l.initial.session) (stands_in g.E.Simulator.simulation l.initial.session) (steps_in l.session) (stands_in g.E.Simulator.simulation l.session)
    (g.W.Sink.state l.initial.out) (g.W.Sink.state l.out) l.most l.step
