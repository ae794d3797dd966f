use Rattle.std.proofs.Common.{◌≡◌, map}
use Rattle.pz_classes_lineage.specs.Preorder.{visited}
use Rattle.pz_classes_lineage.specs.devices.Rows.{times, as_root, at_depth}
use Rattle.pz_classes_lineage.proofs.Filling.{FilledFrom}
use Rattle.pz_classes_lineage.proofs.walk.roots_of.Given as goal

abbrev pub invariant-loop-class : goal.invariant-loop-class
invariant-loop-class l = record {
  filled : FilledFrom (as_root l.parents) l.class (λ c. times c (visited l.roots.items));
  outermost : l.roots.items ≡ map (at_depth 0) (visited l.roots.items);
}
