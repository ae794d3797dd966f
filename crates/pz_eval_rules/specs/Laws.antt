-- Laws of evaluation.
use Rattle.std.specs.Prelude.{◌≡◌, ◌≤◌, ℕ, false}
use Rattle.pz_classes_rules.specs.pz_syntax.Classes.{ModelTree}
use Rattle.pz_classes_rules.specs.pz_classes_code.CodeView.{Tree}
use Rattle.pz_classes_rules.specs.Soundness.{IsSound}
use Rattle.pz_state.specs.States.{StateView}
use Rattle.pz_eval_rules.specs.declared.allowance.Allowance.{Allowance}
use Rattle.pz_eval_rules.specs.declared.outcome.Outcome.{Outcome}
use Rattle.pz_eval_rules.specs.declared.outcome.Outcome.TheVariants as outcome
use Rattle.pz_eval_rules.specs.declared.outcome.Listed.{Listed}
use Rattle.pz_eval_rules.specs.declared.outcome.Listed.TheVariants as listed
use Rattle.pz_eval_rules.specs.Steps.{Codes}
use Rattle.pz_eval_rules.specs.Outcomes.{Finds, FindsAll}
use Rattle.pz_eval_rules.specs.Clocks.{names_clock, list_names_clock, DataIsTimeless}

pub record SomeOutcome : Type 0 where
  pub outcome : Outcome
  pub state : StateView

pub record SomeListed : Type 0 where
  pub listed : Listed
  pub state : StateView

-- each evaluation has an outcome and a state afterwards
abbrev pub EachHasAnOutcome : Type 0
EachHasAnOutcome = (model : ModelTree) (now frame : ℕ) (s : StateView) (t : Tree) (allowed : Allowance)
    → (o : SomeOutcome) × Finds model now frame s t allowed o.outcome o.state

-- and no other
abbrev pub HasOneOutcome : Type 0
HasOneOutcome = (model : ModelTree) (now frame : ℕ) (s : StateView) (t : Tree) (allowed : Allowance) (o1 o2 : Outcome) (s1 s2 : StateView)
    → Finds model now frame s t allowed o1 s1 → Finds model now frame s t allowed o2 s2 → (o1 ≡ o2) × (s1 ≡ s2)

-- what is found with less is found with more
abbrev pub MoreFindsTheSame : Type 0
MoreFindsTheSame = (model : ModelTree) (now frame : ℕ) (s : StateView) (t : Tree) (less enough : Allowance) (o : Outcome) (s1 : StateView)
    → less.units ≤ enough.units → less.depth ≤ enough.depth → (o ≡ outcome.Spent → ⊥)
    → Finds model now frame s t less o s1 → Finds model now frame s t enough o s1

-- the same of lists
abbrev pub EachListHasAnOutcome : Type 0
EachListHasAnOutcome = (model : ModelTree) (now frame : ℕ) (s : StateView) (ts : Codes) (allowed : Allowance)
    → (o : SomeListed) × FindsAll model now frame s ts allowed o.listed o.state

abbrev pub ListHasOneOutcome : Type 0
ListHasOneOutcome = (model : ModelTree) (now frame : ℕ) (s : StateView) (ts : Codes) (allowed : Allowance) (o1 o2 : Listed) (s1 s2 : StateView)
    → FindsAll model now frame s ts allowed o1 s1 → FindsAll model now frame s ts allowed o2 s2 → (o1 ≡ o2) × (s1 ≡ s2)

abbrev pub MoreFindsTheSameList : Type 0
MoreFindsTheSameList = (model : ModelTree) (now frame : ℕ) (s : StateView) (ts : Codes) (less enough : Allowance) (o : Listed) (s1 : StateView)
    → less.units ≤ enough.units → less.depth ≤ enough.depth → (o ≡ listed.Spent → ⊥)
    → FindsAll model now frame s ts less o s1 → FindsAll model now frame s ts enough o s1

-- no data method of a sound model names the clock
abbrev pub SoundDataIsTimeless : Type 0
SoundDataIsTimeless = (model : ModelTree) → IsSound model → DataIsTimeless model

-- what does not name the clock comes to the same at each clock
abbrev pub UnclockedIsTimeless : Type 0
UnclockedIsTimeless = (model : ModelTree) (now later frame : ℕ) (s : StateView) (t : Tree) (allowed : Allowance) (o : Outcome) (s1 : StateView)
    → IsSound model → names_clock t ≡ false
    → Finds model now frame s t allowed o s1 → Finds model later frame s t allowed o s1

abbrev pub UnclockedListIsTimeless : Type 0
UnclockedListIsTimeless = (model : ModelTree) (now later frame : ℕ) (s : StateView) (ts : Codes) (allowed : Allowance) (o : Listed) (s1 : StateView)
    → IsSound model → list_names_clock ts ≡ false
    → FindsAll model now frame s ts allowed o s1 → FindsAll model later frame s ts allowed o s1
