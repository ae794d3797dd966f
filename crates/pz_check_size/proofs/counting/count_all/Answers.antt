use Rattle.std.proofs.Common.{arith}
use Rattle.pz_check_size.proofs.Counted.{none_counted, counts, all_counted}
use Rattle.pz_check_size.proofs.counting.count_all.Goals as goal

pub loop-class-init : goal.loop-class-init
loop-class-init c = none_counted c.args.nodes.now c.args.order.now c.requires.order c.args.totals.now.items c.requires.sized

pub loop-class-preserved : goal.loop-class-preserved
loop-class-preserved c = counts c.args.nodes.now c.args.order.now c.requires.order c.loop-class.totals.items c.as_slice.result.now c.loop-class.class-index c.total_of.result c.loop-class-test.true c.as_slice.ensures.value c.total_of.ensures c.loop-class.invariant

pub returns : goal.returns
returns c = all_counted c.args.nodes.now c.args.order.now c.requires.order c.loop-class.totals.items c.loop-class.class-index c.loop-class-test.false (omega arith) c.loop-class.invariant
