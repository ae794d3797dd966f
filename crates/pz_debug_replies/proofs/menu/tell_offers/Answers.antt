use Rattle.pz_term_simulator.specs.Simulations.{model_in, clock_in}
use Rattle.pz_debug_replies.specs.Lines.{offers_text}
use Rattle.pz_debug_session.specs.Sessions.{stands_in}
use Rattle.pz_debug_replies.specs.Lines.{menu_line}
use Rattle.pz_debug_replies.proofs.Written.{both_written, first_halted}
use Rattle.pz_debug_replies.proofs.menu.tell_offers.Goals as goal

pub returns-in_err-tell_count : goal.returns-in_err-tell_count
returns-in_err-tell_count g c = λ actions are.
    let s = stands_in g.E.Simulator.simulation c.args.session.now in
    first_halted c.rules_are_known.ensures _ _ (menu_line (clock_in s) c.args.offers) (offers_text (model_in s) 0 actions) c.in_err-tell_count.field-0.0 c.from_residual.result c.in_err-tell_count.ensures c.from_residual.ensures.1

pub returns : goal.returns
returns g c = λ actions are.
    let s = stands_in g.E.Simulator.simulation c.args.session.now in
    both_written c.rules_are_known.ensures _ _ _ (menu_line (clock_in s) c.args.offers) (offers_text (model_in s) 0 actions) c.tell_each.result c.in_ok-tell_count.ensures (c.tell_each.ensures actions are)
