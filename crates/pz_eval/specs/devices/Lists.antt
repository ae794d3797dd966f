-- What the evaluation of a list gathers.
use Rattle.std.specs.Prelude.{◌≡◌, ℕ, List, Result, Ok, Err}
use Rattle.pz_classes_code.specs.pz_value.declared.value.Value.{Value}
use Rattle.pz_copy.specs.pz_state.States.{StateView}
use Rattle.pz_eval_machine.specs.pz_eval_rules.declared.outcome.Listed.TheVariants as listed
use Rattle.pz_eval_machine.specs.pz_eval_rules.Answers.{stops, fault}
use Rattle.pz_eval_machine.specs.pz_eval_rules.devices.Computed.{Reached, done, spent}
use Rattle.pz_eval_machine.specs.pz_eval_rules.devices.Outcomes.{listed_of, state_after}
use Rattle.pz_eval_machine.specs.pz_eval_operations.declared.stop.Stop.{Stop}
use Rattle.pz_eval_machine.specs.pz_eval_operations.declared.stop.Stop.TheVariants as stop

-- the values, and the state that is left; or why there are none
abbrev pub Gathers : Result (List Value) Stop → StateView → ℕ → Reached (List Value) → Type 0
Gathers (Ok ys) s r x = (listed_of x ≡ listed.Values ys) × ((before : StateView) → state_after before x ≡ s)
Gathers (Err stop.NoMemory) s r x = Unit {0}
Gathers (Err stop.Spent) s r x = x ≡ spent
Gathers (Err (stop.Fault kind at)) s r x = x ≡ done (stops (fault kind at)) r
