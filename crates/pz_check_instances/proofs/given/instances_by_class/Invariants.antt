use Rattle.std.proofs.Common.{◌≡◌, ◌++◌, ℕ, suc, length, map, drop}
use Rattle.std.specs.List.{flat_map}
use Rattle.pz_classes_code.specs.pz_syntax.ClassView.{decl_view, model_view}
use Rattle.pz_classes.specs.pz_classes_rules.Instances.{instances}
use Rattle.pz_check_instances.specs.devices.ClassRows.{row, row_count}
use Rattle.pz_check_instances.specs.devices.Given.{of_class, all_instances}
use Rattle.pz_check_instances.proofs.given.instances_by_class.Given as goal

abbrev pub invariant-loop-decl : goal.invariant-loop-decl
invariant-loop-decl l = record {
  counted : row_count l.rows ≡ suc (length l.decl-items);
  listed : (k : ℕ) → map (λ i. i.now) (row l.rows k) ++ flat_map (λ d. of_class (model_view l.model) k (instances (decl_view d))) (drop l.decl-index l.decl-items) ≡ of_class (model_view l.model) k (all_instances (model_view l.model));
}
