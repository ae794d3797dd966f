use Rattle.std.proofs.Common.{◌≡◌, ℕ, length}
use Rattle.pz_classes_lineage.specs.devices.Rows.{times, row, as_child}
use Rattle.pz_classes_lineage.proofs.Filling.{FilledFrom}
use Rattle.pz_classes_lineage.proofs.walk.children_of.Given as goal

abbrev pub invariant-loop-class : goal.invariant-loop-class
invariant-loop-class l = record {
  counted : length l.rows.items ≡ length l.parents;
  filled : (p : ℕ) → FilledFrom (as_child l.parents p) l.class (λ c. times c (row l.rows.items p));
}
