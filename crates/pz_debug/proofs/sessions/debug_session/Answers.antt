use Rattle.pz_sim.specs.pz_term_simulator.Simulations.{setting_in}
use Rattle.pz_debug_session.specs.Sessions.{stands_in}
use Rattle.pz_debug.proofs.Started.{says_whole, says_halted}
use Rattle.pz_debug.proofs.sessions.debug_session.Goals as goal

pub returns-in-Ok : goal.returns-in-Ok
returns-in-Ok g c = λ m same. says_whole m (setting_in (stands_in g.E.Simulator.simulation c.args.session)) c.args.commands.now _ _ c.reply_all-replied.result _ same c.in-Ok.is c.reply_all-replied.ensures

pub returns-in-Err : goal.returns-in-Err
returns-in-Err g c = λ m same. rw c.halted.ensures (says_halted m (setting_in (stands_in g.E.Simulator.simulation c.args.session)) c.args.commands.now _ _ c.reply_all-replied.result c.in-Err.halt same c.in-Err.is c.reply_all-replied.ensures)
