-- What an evaluation would find, whose effects do not stay.
use Rattle.std.specs.Prelude.{ℕ}
use Rattle.pz_classes_code.specs.pz_syntax.Classes.{ModelTree}
use Rattle.pz_classes_code.specs.CodeView.{Tree}
use Rattle.pz_copy.specs.pz_state.States.{StateView}
use Rattle.pz_eval_machine.specs.pz_eval_rules.declared.allowance.Allowance.{Allowance}
use Rattle.pz_eval_machine.specs.pz_eval_rules.declared.outcome.Outcome.{Outcome}
use Rattle.pz_eval_machine.specs.pz_eval_rules.Outcomes.{Finds}

-- this is found, and some state would be left
pub record WouldFind (model : ModelTree) (now frame : ℕ) (s : StateView) (t : Tree) (allowed : Allowance) (o : Outcome) : Type 0 where
  pub left : StateView
  pub finds : Finds model now frame s t allowed o left
