use Rattle.std.proofs.Common.{IsTrue}
use Rattle.pz_check_openings.specs.devices.Settling.{value_of}
use Rattle.pz_check_openings.specs.devices.Heavy.{is_closed}
use Rattle.pz_check_openings.proofs.AllSettled.{one_more, all_of_them}
use Rattle.pz_check_openings.proofs.heavy.are_closed.Goals as goal

pub loop-method-preserved : goal.loop-method-preserved
loop-method-preserved c = one_more (λ o. IsTrue (is_closed (value_of c.args.names.now c.args.bounds.now) (value_of c.args.names.now c.args.marks.now) o)) c.args.methods.now c.loop-method.method-index c.method-item.result c.loop-method-test.true c.method-item.is
    (λ o is. c.is_closed_if_any.ensures c.if-not-is_closed_if_any.false o is) c.loop-method.invariant

pub returns : goal.returns
returns c = λ _. all_of_them (λ o. IsTrue (is_closed (value_of c.args.names.now c.args.bounds.now) (value_of c.args.names.now c.args.marks.now) o)) c.args.methods.now c.loop-method.method-index c.loop-method-test.false c.loop-method.invariant
