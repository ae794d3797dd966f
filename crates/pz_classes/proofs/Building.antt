-- What the table of a model's classes is built from, as the code sees it.
use Rattle.std.proofs.Common.{◌≡◌, sym, ap, ◌∙◌, subst, ℕ, ◌+◌, ◌↔◌, Bool, true, List, Option, Some, length, slice_get, arith}
use Rattle.pz_classes_code.specs.pz_syntax.declared.clusters.Model.{Model}
use Rattle.pz_classes_code.specs.pz_syntax.ClassView.{model_view}
use Rattle.pz_check_violations.specs.declared.violation.Violation.{Violation}
use Rattle.pz_classes_lineage.specs.declared.visit.Visit.{Visit}
use Rattle.pz_classes_lineage.specs.Parents.{parent_in, AreWithin}
use Rattle.pz_classes_lineage.specs.Reached.{GoesRound}
use Rattle.pz_classes_lineage.specs.Preorder.{IsPreorder}
use Rattle.pz_classes_rules.specs.Ancestors.{parent}
use Rattle.pz_classes_rules.specs.Violations.{Violates}
use Rattle.pz_classes_rules.specs.devices.Rounds.{AreRound}
use Rattle.pz_classes_rules.specs.Preorder.{IsPreorderOf}
use Rattle.pz_classes_rules.proofs.Within.{parent_within}
use Rattle.pz_classes.proofs.Filling.{counted_with}
use Rattle.pz_classes_rules.proofs.Rounds.{parents_agree, nobody_goes_round}
use Rattle.pz_classes.proofs.Walked.{preorder_of}

-- the list of parents, and the same list as it is handed on
module _ (model : Model) (parents seen : List (Option ℕ)) (same : seen ≡ parents) (each : (c : ℕ) → parent_in parents c ≡ parent (model_view model) c) where
  ups_are : parent_in seen ≡ parent (model_view model)
  ups_are = ap parent_in same ∙ parents_agree (model_view model) parents each

  pub each_is_within : length parents ≡ length model.decls + 1 → AreWithin seen
  each_is_within counted c p is =
      let up : parent (model_view model) c ≡ Some p = sym (ap (λ (f : ℕ → Option ℕ). f c) ups_are) ∙ is in
      let below = parent_within (model_view model) c p up in
      let count = counted_with model in
      let sized : length seen ≡ length parents = ap length same in
      omega arith

  pub rounds_are : (round marks : List Bool) → marks ≡ round → ((c : ℕ) → (slice_get round c ≡ Some true) ↔ GoesRound (parent_in seen) c) → AreRound (model_view model) marks
  rounds_are round marks held exact =
      subst (λ (up : ℕ → Option ℕ). (c : ℕ) → (slice_get marks c ≡ Some true) ↔ GoesRound up c) ups_are
      (subst (λ (ms : List Bool). (c : ℕ) → (slice_get ms c ≡ Some true) ↔ GoesRound (parent_in seen) c) (sym held) exact)

  pub nobody_seen : ((v : Violation) → Violates (model_view model) v → ⊥) → (c : ℕ) → GoesRound (parent_in seen) c → ⊥
  nobody_seen sound c goes = nobody_goes_round (model_view model) sound c (subst (λ (up : ℕ → Option ℕ). GoesRound up c) ups_are goes)

  pub walk_is : (visits held : List Visit) → held ≡ visits → length parents ≡ length model.decls + 1 → IsPreorder (parent_in seen) (length seen) visits → IsPreorder (parent (model_view model)) (length model.decls + 1) held
  walk_is visits held kept counted is =
      subst (λ (vs : List Visit). IsPreorder (parent (model_view model)) (length model.decls + 1) vs) (sym kept)
      (subst (λ (n : ℕ). IsPreorder (parent (model_view model)) n visits) (ap length same ∙ counted)
      (subst (λ (up : ℕ → Option ℕ). IsPreorder up (length seen) visits) ups_are is))

pub walk_of : (model : Model) (visits : List Visit) → ((v : Violation) → Violates (model_view model) v → ⊥) → IsPreorder (parent (model_view model)) (length model.decls + 1) visits → IsPreorderOf (model_view model) visits
walk_of model visits sound is = preorder_of (model_view model) (nobody_goes_round (model_view model) sound) visits (length model.decls + 1) (counted_with model) is
