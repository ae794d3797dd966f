use Rattle.std.proofs.Common.{◌≡◌, ◌==◌, ◌<◌, length, count_by}
use Rattle.pz_classes_lineage.specs.Parents.{parent_in}
use Rattle.pz_classes_lineage.proofs.CycleWalks.{IsWalking}
use Rattle.pz_classes_lineage.proofs.cycles.walk_up.Given as goal

abbrev pub invariant-loop-walks : goal.invariant-loop-walks
invariant-loop-walks l = record {
  within : l.at < length l.parents;
  sized : length l.walks ≡ length l.parents;
  walking : IsWalking (parent_in l.parents) l.fn.walks l.walks l.start l.at;
}

abbrev pub decreases-loop-walks : goal.decreases-loop-walks
decreases-loop-walks l = count_by (λ walk. walk == 0) l.walks
