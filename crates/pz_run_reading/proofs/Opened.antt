-- Models that open, from what the parts of the reading say.
use Rattle.std.proofs.Common.{◌≡◌, ℕ, List, refl, subst}
use Rattle.pz_bind_rules.specs.pz_syntax.Classes.{ModelTree}
use Rattle.pz_bind_rules.specs.pz_check_violations.declared.violation.Violation.{Violation}
use Rattle.pz_classes_openings.specs.OpeningRules.{Opens, IsOpeningViolation, in_rounds, in_sizes}
use Rattle.pz_check.specs.declared.error.CheckError.{CheckError}
use Rattle.pz_check.specs.declared.error.CheckError.TheVariants as check
use Rattle.pz_check.specs.Together as together
use Rattle.pz_run_reading.specs.Models.{IsModelOf}
use Rattle.pz_run_reading.specs.Refusals.{IsRefused}
use Rattle.pz_run_reading.specs.Openings.{IsRefusedToOpen, at_once, opening, IsOpeningRefusal}
use Rattle.pz_run_reading.specs.Answers.{OnRefused}
use Rattle.pz_run_reading.specs.Laws.{HasOneModel, NoModelIsRefused, NoOpenModelIsRefused}
use Rattle.pz_run_reading.specs.devices.Errors.{of_checker}
use Rattle.pz_run_reading.specs.declared.refusal.Refusal.TheVariants as refusal
use Rattle.pz_run_reading.specs.declared.read_error.ReadModelError.{ReadModelError}
use Rattle.pz_run_reading.specs.declared.read_error.ReadModelError.TheVariants.{NoMemory, Refused}

-- a model that opens breaks no rule of opening
opens_not : (m : ModelTree) (v : Violation) → Opens m → IsOpeningViolation m v → ⊥
opens_not m v opens (in_rounds least) = opens.rounds v least.violated
opens_not m v opens (in_sizes none least) = opens.sizes v least.violated

pub opening_cause : (m : ModelTree) (e : CheckError) → together.OnRefused (IsOpeningViolation m) e → OnRefused (IsOpeningRefusal m) (of_checker e)
opening_cause m check.NoMemory found = tt
opening_cause m (check.Refused v) found = found

module _ (text : List ℕ) (m : ModelTree) (is : IsModelOf text m) where
  -- the model of the text does not open
  pub to_open_cause : (e : ReadModelError) → OnRefused (IsOpeningRefusal m) e → OnRefused (IsRefusedToOpen text) e
  to_open_cause NoMemory found = tt
  to_open_cause (Refused (refusal.Violates v)) found = opening m v is found
  to_open_cause (Refused (refusal.BadByte at)) found = absurd found
  to_open_cause (Refused (refusal.OpenComment at)) found = absurd found
  to_open_cause (Refused (refusal.OpenString at)) found = absurd found
  to_open_cause (Refused (refusal.BadNumber at)) found = absurd found
  to_open_cause (Refused (refusal.Syntax at)) found = absurd found
  to_open_cause (Refused (refusal.TooNested at)) found = absurd found

-- a text without a model is refused
pub refused_at_once : (text : List ℕ) (e : ReadModelError) → OnRefused (IsRefused text) e → OnRefused (IsRefusedToOpen text) e
refused_at_once text NoMemory found = tt
refused_at_once text (Refused r) found = at_once r found

-- a model that opens is refused for want of memory alone
pub open_cause : (m : ModelTree) → Opens m → (e : ReadModelError) → OnRefused (IsOpeningRefusal m) e → e ≡ NoMemory
open_cause m opens NoMemory found = refl
open_cause m opens (Refused (refusal.Violates v)) found = absurd (opens_not m v opens found)
open_cause m opens (Refused (refusal.BadByte at)) found = absurd found
open_cause m opens (Refused (refusal.OpenComment at)) found = absurd found
open_cause m opens (Refused (refusal.OpenString at)) found = absurd found
open_cause m opens (Refused (refusal.BadNumber at)) found = absurd found
open_cause m opens (Refused (refusal.Syntax at)) found = absurd found
open_cause m opens (Refused (refusal.TooNested at)) found = absurd found

pub never_open : HasOneModel → NoModelIsRefused → NoOpenModelIsRefused
never_open one never text m _ is (at_once r refused) = never text m r is.is_model refused
never_open one never text m _ is (opening n v is_model found) =
    opens_not n v (subst Opens (one text m n is.is_model is_model) is.opens) found
