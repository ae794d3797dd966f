use Rattle.pz_check_size.proofs.Numberings.{one_placed}
use Rattle.pz_check_size.proofs.counting.by_number.Goals as goal

pub loop-class-preserved : goal.loop-class-preserved
loop-class-preserved c = one_placed c.args.numbers.now c.requires c.loop-class.classes.items c.loop-class.class c.loop-class-test.true c.loop-class.invariant
