use Rattle.std.proofs.Common.{arith}
use Rattle.pz_bind.proofs.PlanSteps.{channel_step}
use Rattle.pz_bind.proofs.naming.Naming.links.Goals as goal

pub loop-number-preserved : goal.loop-number-preserved
loop-number-preserved c = λ m xs naming i p.
    channel_step m xs i p c.args.channels.now c.index-channels-number.result c.loop-number.number _ c.as_slice.result.now _ _ _ c.loop-number-test.true c.index-channels-number.is (omega arith) c.as_slice.ensures
    (c.in_ok-add_ends.ensures m xs naming i p) (c.loop-number.invariant m xs naming i p)
