use Rattle.pz_debug_session.specs.Sessions.{stands_in, steps_in}
use Rattle.pz_debug_replies.specs.devices.Advanced.{message_of}
use Rattle.pz_debug_replies.proofs.Written.{err_is}
use Rattle.pz_debug_replies.proofs.Replied.{passing_on, passing_cut}
use Rattle.pz_debug_replies.proofs.advancing.go_on_passing.Goals as goal

pub returns-in_err-let_pass : goal.returns-in_err-let_pass
returns-in_err-let_pass g c =
    let s = stands_in g.E.Simulator.simulation c.args.session.now in
    rw (err_is c.from_residual.result c.in_err-let_pass.field-0.0 c.from_residual.ensures.1)
    (passing_cut c.rules_are_known.ensures (message_of c.args.wanted) (steps_in c.args.session.now) s c.requires.at _ _ _ _ c.in_err-let_pass.ensures.setting c.args.time c.in_err-let_pass.field-0.0 c.requires.moment c.in_err-let_pass.ensures.wrote)

pub returns : goal.returns
returns g c =
    let s = stands_in g.E.Simulator.simulation c.args.session.now in
    passing_on c.rules_are_known.ensures (message_of c.args.wanted) (steps_in c.args.session.now) s c.requires.at _ _ _ _ c.in_ok-let_pass.ensures.setting c.args.time c.requires.moment c.in_ok-let_pass.ensures.steps c.in_ok-let_pass.ensures.at c.in_ok-let_pass.ensures.wrote
