use Rattle.std.proofs.Common.{◌≡◌, ◌++◌, ℕ, map, drop}
use Rattle.pz_classes_code.specs.pz_syntax.ClassView.{model_view}
use Rattle.pz_check_instances.specs.devices.ClassRows.{row, row_count}
use Rattle.pz_check_instances.specs.devices.Given.{of_class}
use Rattle.pz_check_instances.proofs.given.add_instances.Given as goal

abbrev pub invariant-loop-instance : goal.invariant-loop-instance
invariant-loop-instance l = record {
  counted : row_count l.rows ≡ row_count l.initial.rows;
  added : (k : ℕ) → map (λ i. i.now) (row l.rows k) ++ of_class (model_view l.model) k (drop l.instance-index l.instances) ≡ map (λ i. i.now) (row l.initial.rows k) ++ of_class (model_view l.model) k l.instances;
}
