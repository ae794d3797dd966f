use Rattle.pz_check_size.specs.devices.Counting.{ArePlaced}
use Rattle.pz_check_size.proofs.counting.by_number.Given as goal

abbrev pub invariant-loop-class : goal.invariant-loop-class
invariant-loop-class l = ArePlaced l.numbers l.classes.items l.class
