-- What an active part sends or receives, and what a communication does to it.
use Rattle.std.specs.Prelude.{◌≤◌, ◌+◌, ℕ, Bool, true, List, [], length, Option, Some, None, unwrap_or, Result, Ok}
use Rattle.pz_bind_rules.specs.pz_syntax.declared.tokens.Pos.{Pos}
use Rattle.pz_bind_rules.specs.pz_syntax.declared.names.Id.{Id}
use Rattle.pz_bind_rules.specs.pz_syntax.Expressions.{Part}
use Rattle.pz_bind_rules.specs.pz_syntax.Statements.{send, receive}
use Rattle.pz_bind_rules.specs.pz_value.declared.value.ClassId.{ClassId}
use Rattle.pz_bind_rules.specs.pz_value.declared.value.Value.{Value}
use Rattle.pz_bind_rules.specs.pz_classes_code.declared.slot.Slot.{Slot}
use Rattle.pz_offer.specs.pz_state.States.{object_limit}
use Rattle.pz_offer.specs.pz_state.declared.fault.FaultKind.TheVariants.{StoreFull}
use Rattle.pz_offer.specs.pz_state.States.{StateView}
use Rattle.pz_offer.specs.pz_copy.Parcels.{ParcelView}
use Rattle.pz_offer.specs.pz_copy.Packing.{IsParcelOf}
use Rattle.pz_offer.specs.declared.trouble.Trouble.{Trouble}
use Rattle.pz_rules.specs.Terms.{Code, Term, leaf}
use Rattle.pz_rules.specs.Settings.{Context, Process, in_state}
use Rattle.pz_eval_binding.specs.Binding as binding
use Rattle.pz_rules.specs.Meanings.{and_then, fault}
use Rattle.pz_rules.specs.Evaluations.{GivesPart, Tests}
use Rattle.pz_rules.specs.InternalActions.{done_in}

-- a send at this place of the text: the port, the message, and the parcel of the values that its
-- arguments have now
pub data Sends (a : Context) (f : ℕ) : Term → Pos → ℕ → List ℕ → ParcelView → Type 0 where
  sends : (at : Pos) (port : ℕ) (name : Id) (args block : Part Slot ClassId) (values : List Value) (s : StateView) (parcel : ParcelView)
      → GivesPart a f at args (Ok values) s → IsParcelOf s values parcel → Sends a f (leaf (send at port name args block)) at port name.name parcel

abbrev pub variables_of : Option (List Slot) → List Slot
variables_of into = unwrap_or into []

-- a receive at this place of the text: the port, the message and the number of values
pub data Receives : Term → Pos → ℕ → List ℕ → ℕ → Type 0 where
  receives : (at : Pos) (port : ℕ) (name : Id) (into : Option (List Slot)) (condition : Option Code) (block : Part Slot ClassId)
      → Receives (leaf (receive at port name into condition block)) at port name.name (length (variables_of into))

-- the objects of the parcel go into the store
abbrev pub Fits : Context → ParcelView → Type 0
Fits a parcel = length a.state.objects + length parcel.objects ≤ object_limit

-- the parcel unpacked, and its values bound from left to right
abbrev pub bound : Context → ℕ → Option (List Slot) → ParcelView → StateView
bound a f into parcel = binding.bound f (variables_of into) parcel a.state

-- whether a receive takes the parcel: where it has a condition, its value once the parcel is bound
pub data Judges (a : Context) (f : ℕ) (parcel : ParcelView) : Term → Result Bool Trouble → Type 0 where
  free : (at : Pos) (port : ℕ) (name : Id) (into : Option (List Slot)) (block : Part Slot ClassId)
      → Judges a f parcel (leaf (receive at port name into None block)) (Ok true)
  asks : (at : Pos) (port : ℕ) (name : Id) (into : Option (List Slot)) (condition : Code) (block : Part Slot ClassId) (r : Result Bool Trouble)
      → Fits a parcel → Tests (in_state a (bound a f into parcel)) f at condition r → Judges a f parcel (leaf (receive at port name into (Some condition) block)) r
  unfit : (at : Pos) (port : ℕ) (name : Id) (into : Option (List Slot)) (condition : Code) (block : Part Slot ClassId)
      → ¬ Fits a parcel → Judges a f parcel (leaf (receive at port name into (Some condition) block)) (fault StoreFull a.process at)

-- What a send leaves of the part, with its parcel and the place of its statement: the arguments are
-- evaluated and packed, then the block is evaluated.
pub data Hands (a : Context) (f : ℕ) (parcel : ParcelView) : Term → Pos → Result Process Trouble → Type 0 where
  hands : (at : Pos) (port : ℕ) (name : Id) (args block : Part Slot ClassId) (values : List Value) (s : StateView) (r : Result (List Value) Trouble) (left : StateView)
      → GivesPart a f at args (Ok values) s → IsParcelOf s values parcel → GivesPart (in_state a s) f at block r left
      → Hands a f parcel (leaf (send at port name args block)) at (and_then r (λ _. Ok (done_in left)))

-- What a receive leaves of the part: the parcel is unpacked and bound, then the block is evaluated.
pub data Takes (a : Context) (f : ℕ) (parcel : ParcelView) : Term → Pos → Result Process Trouble → Type 0 where
  takes : (at : Pos) (port : ℕ) (name : Id) (into : Option (List Slot)) (condition : Option Code) (block : Part Slot ClassId) (r : Result (List Value) Trouble) (left : StateView)
      → Fits a parcel → GivesPart (in_state a (bound a f into parcel)) f at block r left
      → Takes a f parcel (leaf (receive at port name into condition block)) at (and_then r (λ _. Ok (done_in left)))
  full : (at : Pos) (port : ℕ) (name : Id) (into : Option (List Slot)) (condition : Option Code) (block : Part Slot ClassId)
      → ¬ Fits a parcel → Takes a f parcel (leaf (receive at port name into condition block)) at (fault StoreFull a.process at)
