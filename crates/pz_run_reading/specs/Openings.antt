-- Texts of models that open, and the refusal of a text that is asked for one.
use Rattle.std.specs.Prelude.{ℕ, List}
use Rattle.pz_bind_rules.specs.pz_syntax.Classes.{ModelTree}
use Rattle.pz_bind_rules.specs.pz_check_violations.declared.violation.Violation.{Violation}
use Rattle.pz_classes_openings.specs.OpeningRules.{Opens, IsOpeningViolation}
use Rattle.pz_run_reading.specs.declared.refusal.Refusal.{Refusal}
use Rattle.pz_run_reading.specs.declared.refusal.Refusal.TheVariants.{Violates}
use Rattle.pz_run_reading.specs.Models.{IsModelOf}
use Rattle.pz_run_reading.specs.Refusals.{IsRefused}

-- the text is that of the model, which violates no rule, C23 and C24 included
pub record IsOpenModelOf (text : List ℕ) (m : ModelTree) : Type 0 where
  pub is_model : IsModelOf text m
  pub opens : Opens m

-- the text has no model; or it has one, which violates C23 or C24
pub data IsRefusedToOpen (text : List ℕ) : Refusal → Type 0 where
  at_once : (r : Refusal) → IsRefused text r → IsRefusedToOpen text r
  opening : (m : ModelTree) (v : Violation) → IsModelOf text m → IsOpeningViolation m v → IsRefusedToOpen text (Violates v)

-- the refusal of a model that does not open
abbrev pub IsOpeningRefusal : ModelTree → Refusal → Type 0
IsOpeningRefusal m (Violates v) = IsOpeningViolation m v
IsOpeningRefusal m _ = ⊥
