-- Values that are bound to variables, from left to right.
use Rattle.std.specs.Prelude.{ℕ, suc, List, [], ◌∷◌}
use Rattle.pz_classes_code.specs.pz_value.declared.value.Value.{Value}
use Rattle.pz_classes_code.specs.declared.slot.Slot.{Slot}
use Rattle.pz_classes_code.specs.declared.slot.Slot.TheVariants.{Local, Shared, Unknown}
use Rattle.pz_copy.specs.pz_state.States.{StateView, set_variable, set_local}
use Rattle.pz_copy.specs.Parcels.{ParcelView}
use Rattle.pz_copy.specs.Unpacking.{unpacked, unpacked_values}

-- a variable of the process, or a local of frame f
abbrev pub set_slot : ℕ → Slot → Value → StateView → StateView
set_slot f (Local i) v s = set_local s f i v
set_slot f (Shared i) v s = set_variable s i v
set_slot f Unknown v s = s

-- each variable to the value at its place
abbrev pub set_slots : ℕ → List Slot → List Value → StateView → StateView
set_slots f [] vs s = s
set_slots f (x ∷ xs) [] s = s
set_slots f (x ∷ xs) (v ∷ vs) s = set_slots f xs vs (set_slot f x v s)

-- the locals from number n on, as many as there are values
abbrev pub first_slots : ℕ → List Value → List Slot
first_slots n [] = []
first_slots n (v ∷ vs) = Local n ∷ first_slots (suc n) vs

-- a parcel unpacked, and its values bound
abbrev pub bound : ℕ → List Slot → ParcelView → StateView → StateView
bound f into parcel s = set_slots f into (unpacked_values s parcel) (unpacked s parcel)
