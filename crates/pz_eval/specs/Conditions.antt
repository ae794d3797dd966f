-- What the condition of a receive comes to once a parcel is bound to its variables.
use Rattle.std.specs.Prelude.{◌≤◌, ◌+◌, ℕ, List, length}
use Rattle.pz_classes_code.specs.pz_syntax.declared.tokens.Pos.{Pos}
use Rattle.pz_classes_code.specs.pz_syntax.Classes.{ModelTree}
use Rattle.pz_classes_code.specs.declared.slot.Slot.{Slot}
use Rattle.pz_classes_code.specs.CodeView.{Tree}
use Rattle.pz_copy.specs.pz_state.declared.fault.FaultKind.TheVariants.{StoreFull}
use Rattle.pz_copy.specs.pz_state.States.{object_limit}
use Rattle.pz_copy.specs.pz_state.States.{StateView}
use Rattle.pz_copy.specs.Parcels.{ParcelView}
use Rattle.pz_eval_machine.specs.pz_eval_rules.declared.allowance.Allowance.{Allowance}
use Rattle.pz_eval_machine.specs.pz_eval_rules.declared.outcome.Outcome.{Outcome}
use Rattle.pz_eval_machine.specs.pz_eval_rules.declared.outcome.Outcome.TheVariants as outcome
use Rattle.pz_eval_binding.specs.Binding.{bound}
use Rattle.pz_eval.specs.Tentative.{WouldFind}

-- the objects of the parcel find room beside those of the state
abbrev pub Fits : StateView → ParcelView → Type 0
Fits s parcel = length s.objects + length parcel.objects ≤ object_limit

-- of a receive at this place
pub data FindsCondition (model : ModelTree) (now frame : ℕ) (s : StateView) (parcel : ParcelView) (into : List Slot) (receive : Pos) (t : Tree) (allowed : Allowance) : Outcome → Type 0 where
  asked : {o : Outcome}
      → Fits s parcel → WouldFind model now frame (bound frame into parcel s) t allowed o
      → FindsCondition model now frame s parcel into receive t allowed o
  full : ¬ Fits s parcel
      → FindsCondition model now frame s parcel into receive t allowed (outcome.Fault StoreFull receive)
