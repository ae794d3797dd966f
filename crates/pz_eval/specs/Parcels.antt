-- The parcel of the values that expressions come to.
use Rattle.std.specs.Prelude.{ℕ, List}
use Rattle.pz_classes_code.specs.pz_syntax.declared.tokens.Pos.{Pos}
use Rattle.pz_classes_code.specs.pz_syntax.Classes.{ModelTree}
use Rattle.pz_classes_code.specs.pz_value.declared.value.Value.{Value}
use Rattle.pz_copy.specs.pz_state.declared.fault.FaultKind.{FaultKind}
use Rattle.pz_copy.specs.pz_state.States.{StateView}
use Rattle.pz_copy.specs.Parcels.{ParcelView}
use Rattle.pz_copy.specs.Packing.{IsParcelOf}
use Rattle.pz_eval_machine.specs.pz_eval_rules.declared.allowance.Allowance.{Allowance}
use Rattle.pz_eval_machine.specs.pz_eval_rules.declared.outcome.Listed.TheVariants as listed
use Rattle.pz_eval_machine.specs.pz_eval_rules.Steps.{Codes}
use Rattle.pz_eval_machine.specs.pz_eval_rules.Outcomes.{FindsAll}
use Rattle.pz_eval.specs.declared.parcels.Parceled.{Parceled}
use Rattle.pz_eval.specs.declared.parcels.Parceled.TheVariants as parceled

-- values are packed out of the state that the evaluation leaves
pub data FindsParcel (model : ModelTree) (now frame : ℕ) (s : StateView) (ts : Codes) (allowed : Allowance) : Parceled → Type 0 where
  a_parcel : {values : List Value} {left : StateView} {parcel : ParcelView}
      → FindsAll model now frame s ts allowed (listed.Values values) left → IsParcelOf left values parcel
      → FindsParcel model now frame s ts allowed (parceled.Parcel parcel)
  no_values : {kind : FaultKind} {at : Pos} {left : StateView}
      → FindsAll model now frame s ts allowed (listed.Fault kind at) left
      → FindsParcel model now frame s ts allowed (parceled.Fault kind at)
  too_much : {left : StateView}
      → FindsAll model now frame s ts allowed listed.Spent left
      → FindsParcel model now frame s ts allowed parceled.Spent
