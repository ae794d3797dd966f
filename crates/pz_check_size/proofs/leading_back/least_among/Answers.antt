use Rattle.std.proofs.Common.{arith}
use Rattle.pz_check_size.proofs.Backs.{back_step}
use Rattle.pz_check_size.proofs.leading_back.least_among.Goals as goal

pub loop-class-preserved : goal.loop-class-preserved
loop-class-preserved c = back_step c.args.numbers.now c.args.nodes.now c.index-nodes-class.result c.loop-class.class _ _ _ _ c.number_at.result (omega arith) c.index-nodes-class.is (omega arith) c.number_at.ensures c.least_back-least.ensures c.loop-class.invariant
