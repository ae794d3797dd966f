-- The parcel of the values of a send's arguments.
use Rattle.std.specs.Prelude.{ℕ, List, Result, Ok, Err}
use Rattle.pz_classes_code.specs.pz_syntax.declared.tokens.Pos.{Pos}
use Rattle.pz_classes_code.specs.pz_syntax.Expressions.{Part}
use Rattle.pz_classes_code.specs.pz_value.declared.value.ClassId.{ClassId}
use Rattle.pz_classes_code.specs.pz_value.declared.value.Value.{Value}
use Rattle.pz_classes_code.specs.declared.slot.Slot.{Slot}
use Rattle.pz_rules.specs.pz_state.States.{StateView}
use Rattle.pz_rules.specs.pz_copy.Parcels.{ParcelView}
use Rattle.pz_rules.specs.pz_copy.Packing.{IsParcelOf}
use Rattle.pz_rules.specs.pz_offer.declared.trouble.Trouble.{Trouble}
use Rattle.pz_rules.specs.Settings.{Context}
use Rattle.pz_rules.specs.Evaluations.{GivesPart}

-- the values are packed out of the state that their evaluation leaves; or it is a trouble
pub data Packs (a : Context) (f : ℕ) (at : Pos) (es : Part Slot ClassId) : Result ParcelView Trouble → Type 0 where
  packs : (values : List Value) (s : StateView) (parcel : ParcelView) → GivesPart a f at es (Ok values) s → IsParcelOf s values parcel → Packs a f at es (Ok parcel)
  fails : (trouble : Trouble) (s : StateView) → GivesPart a f at es (Err trouble) s → Packs a f at es (Err trouble)
