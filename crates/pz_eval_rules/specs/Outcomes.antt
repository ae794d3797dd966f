-- What an evaluation within an allowance finds, and the state afterwards.
use Rattle.std.specs.Prelude.{◌≡◌, ◌≤◌, ℕ, List, []}
use Rattle.pz_classes_rules.specs.pz_syntax.declared.tokens.Pos.{Pos}
use Rattle.pz_classes_rules.specs.pz_syntax.Classes.{ModelTree}
use Rattle.pz_state.specs.pz_value.declared.value.Value.{Value}
use Rattle.pz_classes_rules.specs.pz_classes_code.CodeView.{Tree}
use Rattle.pz_state.specs.declared.fault.FaultKind.{FaultKind}
use Rattle.pz_state.specs.States.{StateView}
use Rattle.pz_eval_rules.specs.declared.allowance.Allowance.{Allowance}
use Rattle.pz_eval_rules.specs.declared.outcome.Outcome.{Outcome}
use Rattle.pz_eval_rules.specs.declared.outcome.Outcome.TheVariants as outcome
use Rattle.pz_eval_rules.specs.declared.outcome.Listed.{Listed}
use Rattle.pz_eval_rules.specs.declared.outcome.Listed.TheVariants as listed
use Rattle.pz_eval_rules.specs.Memories.{Memory, in_process}
use Rattle.pz_eval_rules.specs.Answers.{Answer, gives, stops, fault, ended, ended_list}
use Rattle.pz_eval_rules.specs.Steps.{Codes}
use Rattle.pz_eval_rules.specs.Evaluation.{Evaluates, Arguments}

-- There is a derivation of this answer that needs no more units than are allowed and is no deeper.
pub record Within {A : Type 0} (comes_to : Answer A → ℕ → ℕ → Type 0) (allowed : Allowance) (a : Answer A) : Type 0 where
  pub units : ℕ
  pub depth : ℕ
  pub derivation : comes_to a units depth
  pub paid : units ≤ allowed.units
  pub deep : depth ≤ allowed.depth

-- no data method runs yet
abbrev pub outside : StateView → Memory
outside s = record { state = s; locals = [] }

-- What an expression of a process comes to in this state, where its locals are those of this frame.
abbrev pub ComesTo : ModelTree → ℕ → ℕ → StateView → Tree → Answer Value → ℕ → ℕ → Type 0
ComesTo model now frame s t = Evaluates model now (in_process frame) (outside s) t

-- Effects stay after a value alone. Spent comes where no derivation is within the allowance.
pub data Finds (model : ModelTree) (now frame : ℕ) (s : StateView) (t : Tree) (allowed : Allowance) : Outcome → StateView → Type 0 where
  a_value : {a : Answer Value} {y : Value} {m : Memory}
      → Within (ComesTo model now frame s t) allowed a → ended [] a ≡ gives y m
      → Finds model now frame s t allowed (outcome.Value y) m.state
  a_fault : {kind : FaultKind} {at : Pos}
      → Within (ComesTo model now frame s t) allowed (stops (fault kind at))
      → Finds model now frame s t allowed (outcome.Fault kind at) s
  too_much : ((a : Answer Value) → Within (ComesTo model now frame s t) allowed a → ⊥)
      → Finds model now frame s t allowed outcome.Spent s

-- the same of a list, which is one evaluation, with the values of all its expressions in order
abbrev pub AllComeTo : ModelTree → ℕ → ℕ → StateView → Codes → Answer (List Value) → ℕ → ℕ → Type 0
AllComeTo model now frame s ts = Arguments model now (in_process frame) (outside s) [] ts

pub data FindsAll (model : ModelTree) (now frame : ℕ) (s : StateView) (ts : Codes) (allowed : Allowance) : Listed → StateView → Type 0 where
  all_values : {a : Answer (List Value)} {ys : List Value} {m : Memory}
      → Within (AllComeTo model now frame s ts) allowed a → ended_list a ≡ gives ys m
      → FindsAll model now frame s ts allowed (listed.Values ys) m.state
  one_fault : {kind : FaultKind} {at : Pos}
      → Within (AllComeTo model now frame s ts) allowed (stops (fault kind at))
      → FindsAll model now frame s ts allowed (listed.Fault kind at) s
  all_too_much : ((a : Answer (List Value)) → Within (AllComeTo model now frame s ts) allowed a → ⊥)
      → FindsAll model now frame s ts allowed listed.Spent s
