use Rattle.pz_check_size.specs.devices.Counting.{AreCounted}
use Rattle.pz_check_size.proofs.counting.count_all.Given as goal

abbrev pub invariant-loop-class : goal.invariant-loop-class
invariant-loop-class l = AreCounted l.nodes l.order l.totals.items l.class-index
