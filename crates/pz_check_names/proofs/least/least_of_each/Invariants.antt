use Rattle.std.proofs.Common.{◌≡◌, ℕ, List, None, drop}
use Rattle.pz_classes.specs.pz_classes_rules.Preorder.{Opens}
use Rattle.pz_classes_lineage.specs.Preorder.{visited}
use Rattle.pz_check_violations.specs.Least.{least_from}
use Rattle.pz_check_names.specs.devices.Inherited.{IsOpen}
use Rattle.pz_check_names.specs.devices.Scopes.{model_of}
use Rattle.pz_check_names.specs.devices.Misuses.{misuses}
use Rattle.pz_check_names.proofs.least.least_of_each.Given as goal

abbrev pub invariant-loop-visit : goal.invariant-loop-visit
invariant-loop-visit l = record {
  opened : (line : List ℕ) × IsOpen (model_of l.declared) line l.inherited × Opens (model_of l.declared) line (drop l.visit-index l.visits);
  found : least_from l.least (misuses (model_of l.declared) (visited (drop l.visit-index l.visits))) ≡ least_from None (misuses (model_of l.declared) (visited l.visits));
}
