use Rattle.std.proofs.Common.{refl}
use Rattle.pz_debug_session.specs.Sessions.{stands_in, steps_in}
use Rattle.pz_debug_replies.specs.devices.Advanced.{message_of}
use Rattle.pz_debug_replies.proofs.Written.{err_is}
use Rattle.pz_debug_replies.proofs.Replied.{sets_out, further, ended, cut, all_taken}
use Rattle.pz_debug_replies.proofs.advancing.advance.Goals as goal

pub loop-step-init : goal.loop-step-init
loop-step-init g c =
    sets_out c.rules_are_known.ensures (message_of c.args.wanted) (steps_in c.args.session.now) (stands_in g.E.Simulator.simulation c.args.session.now) c.args.most _ c.requires

pub go_on-requires : goal.go_on-requires
go_on-requires g c = c.loop-step.invariant.is_at

pub returns-in_err-go_on : goal.returns-in_err-go_on
returns-in_err-go_on g c =
    cut c.rules_are_known.ensures (message_of c.args.wanted) (steps_in c.args.session.now) (stands_in g.E.Simulator.simulation c.args.session.now) c.args.most _
    c.loop-step.step c.loop-step-test.true _ _ _ c.loop-step.invariant _ _ _ c.from_residual.result c.in_err-go_on.field-0.0 (err_is c.from_residual.result c.in_err-go_on.field-0.0 c.from_residual.ensures.1) c.in_err-go_on.ensures

pub returns-in-Ended : goal.returns-in-Ended
returns-in-Ended g c =
    ended c.rules_are_known.ensures (message_of c.args.wanted) (steps_in c.args.session.now) (stands_in g.E.Simulator.simulation c.args.session.now) c.args.most _
    c.loop-step.step c.loop-step-test.true _ _ _ c.loop-step.invariant _ _ _ _ _ refl (rw c.in-Ended.is at c.in_ok-go_on.ensures)

pub loop-step-preserved : goal.loop-step-preserved
loop-step-preserved g c =
    further c.rules_are_known.ensures (message_of c.args.wanted) (steps_in c.args.session.now) (stands_in g.E.Simulator.simulation c.args.session.now) c.args.most _
    c.loop-step.step c.loop-step-test.true _ _ _ c.loop-step.invariant _ _ _ (rw c.in-Further.is at c.in_ok-go_on.ensures)

pub returns : goal.returns
returns g c =
    all_taken c.rules_are_known.ensures (message_of c.args.wanted) (steps_in c.args.session.now) (stands_in g.E.Simulator.simulation c.args.session.now) c.args.most _
    c.loop-step.step c.loop-step-test.false _ _ _ _ _ refl c.loop-step.invariant
