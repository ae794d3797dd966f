-- Laws of what is computed.
use Rattle.std.specs.Prelude.{◌≡◌, ℕ, suc, false}
use Rattle.pz_classes_rules.specs.pz_syntax.declared.tokens.Pos.{Pos}
use Rattle.pz_classes_rules.specs.pz_syntax.Classes.{ModelTree}
use Rattle.pz_classes_rules.specs.pz_classes_code.CodeView.{Tree}
use Rattle.pz_state.specs.States.{StateView}
use Rattle.pz_eval_rules.specs.declared.allowance.Allowance.{Allowance}
use Rattle.pz_eval_rules.specs.Memories.{Memory, Location}
use Rattle.pz_eval_rules.specs.Steps.{Codes, truth}
use Rattle.pz_eval_rules.specs.Outcomes.{Finds, FindsAll}
use Rattle.pz_eval_rules.specs.Clocks.{names_clock, list_names_clock, DataIsTimeless}
use Rattle.pz_eval_rules.specs.devices.Computed.{and_then, tested, going, turns, evaluated}
use Rattle.pz_eval_rules.specs.devices.Outcomes.{reached_value, reached_list, outcome_of, listed_of, state_after}

-- what is computed is found
abbrev pub ComputedIsFound : Type 0
ComputedIsFound = (model : ModelTree) (now frame : ℕ) (s : StateView) (t : Tree) (allowed : Allowance)
    → Finds model now frame s t allowed (outcome_of (reached_value model now frame s t allowed)) (state_after s (reached_value model now frame s t allowed))

-- and so of a list
abbrev pub ComputedListIsFound : Type 0
ComputedListIsFound = (model : ModelTree) (now frame : ℕ) (s : StateView) (ts : Codes) (allowed : Allowance)
    → FindsAll model now frame s ts allowed (listed_of (reached_list model now frame s ts allowed)) (state_after s (reached_list model now frame s ts allowed))

-- A turn of a `while`, and then those after it: each counts a unit, so there are no more turns than
-- units.
abbrev pub TurnsGoOn : Type 0
TurnsGoOn = (model : ModelTree) (now depth : ℕ) (p : Location) (at : Pos) (t : Tree) (ts : Codes) (m : Memory) (r : ℕ)
    → turns model now (evaluated model now depth) (suc r) p at t ts m (suc r)
    ≡ and_then (evaluated model now depth p t m r) (λ y. tested at (truth y) (going model now (evaluated model now depth) p ts (λ m1 r1. turns model now (evaluated model now depth) r1 p at t ts m1 r1)))

-- what does not name the clock is computed to the same at each clock
abbrev pub UnclockedIsComputedTheSame : Type 0
UnclockedIsComputedTheSame = (model : ModelTree) (now later frame : ℕ) (s : StateView) (t : Tree) (allowed : Allowance)
    → DataIsTimeless model → names_clock t ≡ false → reached_value model later frame s t allowed ≡ reached_value model now frame s t allowed

abbrev pub UnclockedListIsComputedTheSame : Type 0
UnclockedListIsComputedTheSame = (model : ModelTree) (now later frame : ℕ) (s : StateView) (ts : Codes) (allowed : Allowance)
    → DataIsTimeless model → list_names_clock ts ≡ false → reached_list model later frame s ts allowed ≡ reached_list model now frame s ts allowed
