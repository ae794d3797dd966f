-- The model that is read, or the refusal, from its tree and what the rules say of that.
use Rattle.std.proofs.Common.{◌≡◌, ℕ, List, Result, Ok, Err, sym, subst, ◌∙◌}
use Rattle.std.specs.Prelude.{IfOk, IfErr}
use Rattle.pz_bind_rules.specs.pz_syntax.Classes.{ModelTree}
use Rattle.pz_bind_rules.specs.pz_classes_rules.Soundness.{IsSound}
use Rattle.pz_bind.specs.pz_classes.CheckedView.{checked_model}
use Rattle.pz_bind.specs.pz_classes.declared.checked.Checked.{Checked}
use Rattle.pz_run_reading.specs.Models.{IsModelOf}
use Rattle.pz_run_reading.specs.Refusals.{IsRefused}
use Rattle.pz_run_reading.specs.Answers.{OnRefused, ReadsAs}
use Rattle.pz_run_reading.specs.devices.Reading.{HasTree, IsViolationOf}
use Rattle.pz_run_reading.specs.declared.read_error.ReadModelError.{ReadModelError}
use Rattle.pz_run_reading.proofs.Causes.{violation_cause, sound_cause}

abbrev Outcome : Type 0
Outcome = Result Checked ReadModelError

module _ (text : List ℕ) (tree : ModelTree) (has : HasTree text tree) where
  model_is : (m : ModelTree) → m ≡ tree → IsSound tree → IsModelOf text m
  model_is m same sound = subst (IsModelOf text) (sym same) (record { tokens = has.tokens; are_tokens = has.are_tokens; is_tree = has.is_tree; sound = sound })

  pub found_model : (result : Outcome) → IfOk result (λ c. checked_model c ≡ tree) → IfOk result (λ c. IsSound tree) → IfOk result (λ c. IsModelOf text (checked_model c))
  found_model (Ok c) same sound = model_is (checked_model c) same sound
  found_model (Err e) same sound = tt

  pub refused_model : (result : Outcome) → IfErr result (OnRefused (IsViolationOf tree)) → IfErr result (OnRefused (IsRefused text))
  refused_model (Ok c) found = tt
  refused_model (Err e) found = violation_cause tree text has e found

  pub only_model : (m : ModelTree) → tree ≡ m → IsModelOf text m → (result : Outcome) → IfOk result (λ c. checked_model c ≡ tree) → IfErr result (OnRefused (IsViolationOf tree)) → ReadsAs m result
  only_model m same is (Ok c) kept found = kept ∙ same
  only_model m same is (Err e) kept found = sound_cause tree (subst IsSound (sym same) is.sound) e found
