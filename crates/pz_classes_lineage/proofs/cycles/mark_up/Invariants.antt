use Rattle.std.proofs.Common.{◌≡◌, ◌<◌, not, length, count_by}
use Rattle.pz_classes_lineage.specs.Parents.{parent_in}
use Rattle.pz_classes_lineage.proofs.CycleMarks.{IsMarking}
use Rattle.pz_classes_lineage.proofs.cycles.mark_up.Given as goal

abbrev pub invariant-loop-marks : goal.invariant-loop-marks
invariant-loop-marks l = record {
  within : l.at < length l.parents;
  sized : length l.marks ≡ length l.parents;
  marking : IsMarking (parent_in l.parents) l.fn.marks l.marks l.start l.at;
}

abbrev pub decreases-loop-marks : goal.decreases-loop-marks
decreases-loop-marks l = count_by not l.marks
