use Rattle.std.proofs.Common.{◌≡◌, ◌-◌, ℕ, length}
use Rattle.pz_classes_lineage.specs.devices.Rows.{times, row, as_child}
use Rattle.pz_classes_lineage.proofs.Going.{Walked}
use Rattle.pz_classes_lineage.proofs.walk.preorder.Given as goal

abbrev pub invariant-loop-visit : goal.invariant-loop-visit
invariant-loop-visit l = record {
  walked : Walked l.parents l.visits.items l.stack.items;
  counted : length l.rows.items ≡ length l.parents;
  children : (p c : ℕ) → times c (row l.rows.items p) ≡ as_child l.parents p c;
}

abbrev pub decreases-loop-visit : goal.decreases-loop-visit
decreases-loop-visit l = length l.parents - length l.visits.items
