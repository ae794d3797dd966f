-- What is found, computed.
use Rattle.std.specs.Prelude.{ℕ, List, [], ◌∷◌}
use Rattle.pz_classes_rules.specs.pz_syntax.Classes.{ModelTree}
use Rattle.pz_state.specs.pz_value.declared.value.Value.{Value}
use Rattle.pz_classes_rules.specs.pz_classes_code.CodeView.{Tree}
use Rattle.pz_state.specs.States.{StateView}
use Rattle.pz_eval_rules.specs.declared.allowance.Allowance.{Allowance}
use Rattle.pz_eval_rules.specs.declared.outcome.Outcome.{Outcome}
use Rattle.pz_eval_rules.specs.declared.outcome.Outcome.TheVariants as outcome
use Rattle.pz_eval_rules.specs.declared.outcome.Listed.{Listed}
use Rattle.pz_eval_rules.specs.declared.outcome.Listed.TheVariants as listed
use Rattle.pz_eval_rules.specs.Memories.{in_process}
use Rattle.pz_eval_rules.specs.Answers.{ends, fault, gives, stops}
use Rattle.pz_eval_rules.specs.Steps.{Codes}
use Rattle.pz_eval_rules.specs.Outcomes.{outside}
use Rattle.pz_eval_rules.specs.devices.Computed.{Reached, done, spent, arguments, evaluated}

abbrev pub reached_value : ModelTree → ℕ → ℕ → StateView → Tree → Allowance → Reached Value
reached_value model now frame s t allowed = evaluated model now allowed.depth (in_process frame) t (outside s) allowed.units

abbrev pub reached_list : ModelTree → ℕ → ℕ → StateView → Codes → Allowance → Reached (List Value)
reached_list model now frame s ts allowed = arguments model now (evaluated model now allowed.depth) (in_process frame) [] ts (outside s) allowed.units

abbrev pub outcome_of : Reached Value → Outcome
outcome_of (done (gives y m) r) = outcome.Value y
outcome_of (done (stops (ends y m)) r) = outcome.Value y
outcome_of (done (stops (fault kind at)) r) = outcome.Fault kind at
outcome_of spent = outcome.Spent

abbrev pub listed_of : Reached (List Value) → Listed
listed_of (done (gives ys m) r) = listed.Values ys
listed_of (done (stops (ends y m)) r) = listed.Values (y ∷ [])
listed_of (done (stops (fault kind at)) r) = listed.Fault kind at
listed_of spent = listed.Spent

-- the state afterwards, which is the one before unless there is a value
abbrev pub state_after : {A : Type 0} → StateView → Reached A → StateView
state_after s (done (gives y m) r) = m.state
state_after s (done (stops (ends y m)) r) = m.state
state_after s (done (stops (fault kind at)) r) = s
state_after s spent = s
