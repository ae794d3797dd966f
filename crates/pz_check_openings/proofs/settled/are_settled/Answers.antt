use Rattle.pz_check_openings.specs.devices.Settling.{value_of, Settles}
use Rattle.pz_check_openings.proofs.AllSettled.{one_more, all_of_them}
use Rattle.pz_check_openings.proofs.settled.are_settled.Goals as goal

pub loop-method-preserved : goal.loop-method-preserved
loop-method-preserved c = one_more (Settles (value_of c.args.names.now c.args.bounds.now)) c.args.methods.now c.loop-method.method-index c.method-item.result c.loop-method-test.true c.method-item.is
    (λ o is. c.is_settled_if_any.ensures c.if-not-is_settled_if_any.false o is) c.loop-method.invariant

pub returns : goal.returns
returns c = λ _. all_of_them (Settles (value_of c.args.names.now c.args.bounds.now)) c.args.methods.now c.loop-method.method-index c.loop-method-test.false c.loop-method.invariant
