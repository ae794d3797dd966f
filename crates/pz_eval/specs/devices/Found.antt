-- Outcomes of the ends of evaluations.
use Rattle.std.specs.Prelude.{◌≡◌}
use Rattle.pz_eval_machine.specs.pz_eval_rules.declared.outcome.Outcome.{Outcome}
use Rattle.pz_eval_machine.specs.pz_eval_rules.declared.outcome.Outcome.TheVariants as outcome
use Rattle.pz_eval_machine.specs.pz_eval_rules.declared.outcome.Listed.{Listed}
use Rattle.pz_eval_machine.specs.pz_eval_rules.declared.outcome.Listed.TheVariants as listed
use Rattle.pz_eval_machine.specs.pz_eval_operations.declared.stop.Stop.{Stop}
use Rattle.pz_eval_machine.specs.pz_eval_operations.declared.stop.Stop.TheVariants as stop
use Rattle.pz_eval_machine.specs.declared.control.Finish.{Finish}
use Rattle.pz_eval_machine.specs.declared.control.Finish.TheVariants as finish

abbrev pub found_value : Finish → Outcome
found_value (finish.Value y) = outcome.Value y
found_value (finish.Return y) = outcome.Value y

-- want of memory has no outcome
abbrev pub IsOutcomeOf : Stop → Outcome → Type 0
IsOutcomeOf stop.NoMemory o = ⊥
IsOutcomeOf stop.Spent o = o ≡ outcome.Spent
IsOutcomeOf (stop.Fault kind at) o = o ≡ outcome.Fault kind at

abbrev pub IsListedOf : Stop → Listed → Type 0
IsListedOf stop.NoMemory o = ⊥
IsListedOf stop.Spent o = o ≡ listed.Spent
IsListedOf (stop.Fault kind at) o = o ≡ listed.Fault kind at
