use Rattle.std.proofs.Common.{◌≡◌, ◌++◌, map, take}
use Rattle.pz_classes_lineage.specs.devices.Rows.{at_depth}
use Rattle.pz_classes_lineage.proofs.walk.push_visits.Given as goal

abbrev pub invariant-loop-class : goal.invariant-loop-class
invariant-loop-class l = l.stack.items ≡ l.initial.stack.items ++ map (at_depth l.depth) (take l.class-index l.classes)
