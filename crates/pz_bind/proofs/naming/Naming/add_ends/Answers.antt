use Rattle.std.proofs.Common.{arith}
use Rattle.pz_bind.proofs.PlanSteps.{end_step, ends_done}
use Rattle.pz_bind.proofs.naming.Naming.add_ends.Goals as goal

pub loop-end-preserved : goal.loop-end-preserved
loop-end-preserved c = λ m xs naming i p.
    end_step m xs i p c.args.channel c.args.ends.now c.end-item.result c.loop-end.end-index _ _ _ _ c.loop-end-test.true c.end-item.is (omega arith)
    (c.in_ok-add_end.ensures m xs naming i p) (c.loop-end.invariant m xs naming i p)

pub returns : goal.returns
returns c = λ m xs naming i p. ends_done m xs i p c.args.channel c.args.ends.now c.loop-end.end-index _ _ (omega arith) (c.loop-end.invariant m xs naming i p)
