use Rattle.std.proofs.Common.{length}
use Rattle.pz_term_simulator.specs.Simulations.{setting_in}
use Rattle.pz_debug_session.specs.Sessions.{stands_in, steps_in}
use Rattle.pz_debug_replies.specs.devices.Answering.{IsAnswered}
use Rattle.pz_debug_replies.proofs.sessions.reply_all.Given as goal

abbrev pub invariant-commands : goal.invariant-commands
invariant-commands g l =
    IsAnswered (setting_in (stands_in g.E.Simulator.simulation l.initial.session)) l.text (g.W.Sink.state l.initial.out) (steps_in l.session) (stands_in g.E.Simulator.simulation l.session) (g.W.Sink.state l.out) l.commands.text l.commands.line

abbrev pub decreases-commands : goal.decreases-commands
decreases-commands g l = length l.commands.text
