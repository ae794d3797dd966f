use Rattle.std.proofs.Common.{◌≡◌, length}
use Rattle.pz_classes_lineage.specs.Parents.{parent_in}
use Rattle.pz_classes_lineage.specs.devices.Walks.{AreWalked, AreFound}
use Rattle.pz_classes_lineage.proofs.cycles.go_round.Given as goal

abbrev pub invariant-loop-class : goal.invariant-loop-class
invariant-loop-class l = record {
  walks_sized : length l.walks.items ≡ length l.parents;
  round_sized : length l.round.items ≡ length l.parents;
  walked : AreWalked (parent_in l.parents) l.walks.items l.class;
  found : AreFound (parent_in l.parents) l.walks.items l.round.items;
}
