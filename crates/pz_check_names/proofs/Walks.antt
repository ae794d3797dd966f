-- One class further on the walk.
use Rattle.std.proofs.Common.{◌≡◌, sym, subst, ◌∙◌, ℕ, suc, ◌<◌, ◌≤◌, List, ◌∷◌, ◌++◌, length, drop, get_or, drop-cons, Option}
use Rattle.pz_classes_code.specs.pz_syntax.Classes.{ModelTree}
use Rattle.pz_classes.specs.pz_classes_rules.Ancestors.{ancestors}
use Rattle.pz_classes.specs.pz_classes_rules.Preorder.{Opens}
use Rattle.pz_classes_lineage.specs.Preorder.{visited, outermost}
use Rattle.pz_classes_lineage.specs.declared.visit.Visit.{Visit}
use Rattle.pz_check_violations.specs.declared.violation.Violation.{Violation}
use Rattle.pz_check_violations.specs.Least.{least_from}
use Rattle.pz_check_violations.proofs.Leasts.{least_from_append}
use Rattle.pz_check_names.specs.devices.Misuses.{of_number, misuses}

module _ (m : ModelTree) (vs : List Visit) (d : Visit) (i j : ℕ) (within : i < length vs) (after : j ≡ suc i) where
  abbrev pub visit : Visit
  visit = get_or vs i d

  first : drop i vs ≡ visit ∷ drop j vs
  first = rw after (drop-cons vs i d within)

  pub visits_step : (line : List ℕ) → Opens m line (drop i vs)
      → (visit.depth ≤ length line) × (ancestors m visit.class ≡ visit.class ∷ outermost visit.depth line) × Opens m (ancestors m visit.class) (drop j vs)
  visits_step line opens = subst (λ (xs : List Visit). Opens m line xs) first opens

  pub found_step : (least now whole : Option Violation) → now ≡ least_from least (of_number m visit.class)
      → least_from least (misuses m (visited (drop i vs))) ≡ whole → least_from now (misuses m (visited (drop j vs))) ≡ whole
  found_step least now whole found before =
      let split : least_from least (of_number m visit.class ++ misuses m (visited (drop j vs))) ≡ whole = rw first at before in
      rw found (sym (least_from_append least (of_number m visit.class) (misuses m (visited (drop j vs)))) ∙ split)
