-- What an evaluation promises of the state, whatever the model.
use Rattle.std.specs.Prelude.{ℕ, All}
use Rattle.pz_copy.specs.pz_state.References.{RefersWithin}
use Rattle.pz_eval_machine.specs.pz_eval_rules.declared.outcome.Outcome.{Outcome}
use Rattle.pz_eval_machine.specs.pz_eval_rules.declared.outcome.Outcome.TheVariants as outcome
use Rattle.pz_eval_machine.specs.pz_eval_rules.declared.outcome.Listed.{Listed}
use Rattle.pz_eval_machine.specs.pz_eval_rules.declared.outcome.Listed.TheVariants as listed

-- P holds, unless there is a value
abbrev pub UnlessValue : Type 0 → Outcome → Type 0
UnlessValue P (outcome.Value y) = Unit {0}
UnlessValue P (outcome.Fault kind at) = P
UnlessValue P outcome.Spent = P

abbrev pub UnlessValues : Type 0 → Listed → Type 0
UnlessValues P (listed.Values ys) = Unit {0}
UnlessValues P (listed.Fault kind at) = P
UnlessValues P listed.Spent = P

-- a reference that is found names one of so many objects
abbrev pub NamesWithin : ℕ → Outcome → Type 0
NamesWithin count (outcome.Value y) = RefersWithin count y
NamesWithin count (outcome.Fault kind at) = Unit {0}
NamesWithin count outcome.Spent = Unit {0}

-- and so do all in a list
abbrev pub NameWithin : ℕ → Listed → Type 0
NameWithin count (listed.Values ys) = All (RefersWithin count) ys
NameWithin count (listed.Fault kind at) = Unit {0}
NameWithin count listed.Spent = Unit {0}
