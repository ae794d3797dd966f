-- What the answers of a reading say.
use Rattle.std.specs.Prelude.{◌≡◌, Result, MatchResult}
use Rattle.pz_bind_rules.specs.pz_syntax.Classes.{ModelTree}
use Rattle.pz_bind.specs.pz_classes.CheckedView.{checked_model}
use Rattle.pz_bind.specs.pz_classes.declared.checked.Checked.{Checked}
use Rattle.pz_run_reading.specs.declared.refusal.Refusal.{Refusal}
use Rattle.pz_run_reading.specs.declared.read_error.ReadModelError.{ReadModelError}
use Rattle.pz_run_reading.specs.declared.read_error.ReadModelError.TheVariants.{NoMemory, Refused}
use Rattle.pz_run_reading.specs.declared.flat_model.FlatModel.{FlatModel}

-- nothing is said of want of memory
abbrev pub OnRefused : (Refusal → Type 0) → ReadModelError → Type 0
OnRefused P NoMemory = Unit {0}
OnRefused P (Refused r) = P r

-- the answer is this model, unless memory runs out
abbrev pub ReadsAs : ModelTree → Result Checked ReadModelError → Type 0
ReadsAs m result = MatchResult result (λ checked. checked_model checked ≡ m) (λ e. e ≡ NoMemory)

abbrev pub FlattensAs : ModelTree → Result FlatModel ReadModelError → Type 0
FlattensAs m result = MatchResult result (λ flat. checked_model flat.checked ≡ m) (λ e. e ≡ NoMemory)
