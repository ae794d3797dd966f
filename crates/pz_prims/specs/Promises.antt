-- What an answer promises of the state, and when it is Other.
use Rattle.std.specs.Prelude.{◌≡◌, ℕ, false, List, None}
use Rattle.pz_state.specs.pz_value.declared.value.Value.{Value}
use Rattle.pz_state.specs.pz_value.declared.value.Value.TheVariants.{Ref}
use Rattle.pz_state.specs.References.{RefersWithin}
use Rattle.pz_state.specs.States.{StateView, object}
use Rattle.pz_prims.specs.declared.answer.Prim.{Prim}
use Rattle.pz_prims.specs.Rows.{answered}
use Rattle.pz_prims.specs.EveryValue.{every_value}
use Rattle.pz_prims.specs.Table.{is_array}

-- P holds, unless a value was answered
abbrev pub UnlessValue : Type 0 → Prim → Type 0
UnlessValue P (Prim.Value v) = Unit {0}
UnlessValue P (Prim.Fault fault) = P
UnlessValue P Prim.Other = P

-- a reference that is answered names one of so many objects
abbrev pub AnswersWithin : ℕ → Prim → Type 0
AnswersWithin count (Prim.Value v) = RefersWithin count v
AnswersWithin count (Prim.Fault fault) = Unit {0}
AnswersWithin count Prim.Other = Unit {0}

-- a reference to an object that is no Array
abbrev pub IsForeign : StateView → Value → Type 0
IsForeign s (Ref r) = is_array (object s r).class ≡ false
IsForeign s v = ⊥

-- such a reference, and a selector that not every value has with so many arguments
abbrev pub IsOther : StateView → Value → List ℕ → List Value → Type 0
IsOther s v selector args = IsForeign s v × (answered (every_value v) selector args ≡ None)
