use Rattle.std.proofs.Common.{◌≡◌, drop}
use Rattle.pz_classes.specs.devices.MethodIn.{first_with_counts}
use Rattle.pz_classes.proofs.method_index.with_counts.Given as goal

abbrev pub invariant-loop-overload : goal.invariant-loop-overload
invariant-loop-overload l = first_with_counts l.counts l.overloads ≡ first_with_counts l.counts (drop l.overload-index l.overloads)
