-- What an evaluation reads and writes.
use Rattle.std.specs.Prelude.{ℕ, ◌-◌, ◌++◌, List, length, slice_set}
use Rattle.pz_state.specs.pz_value.declared.value.Value.{Value}
use Rattle.pz_state.specs.pz_value.declared.value.Value.TheVariants.{Nil}
use Rattle.pz_classes_rules.specs.pz_classes_code.declared.slot.Slot.{Slot}
use Rattle.pz_classes_rules.specs.pz_classes_code.declared.slot.Slot.TheVariants.{Local, Shared, Unknown}
use Rattle.pz_state.specs.States.{StateView, nils, value_at, variable, local, item, set_variable, set_local, set_item}

-- the state, and the locals of the data method that runs, which are no part of the state
pub record Memory : Type 0 where
  pub state : StateView
  pub locals : List Value

-- Where an expression stands: in a method of the process, whose locals are those of the frame with
-- this number, or in a method of the object with this number.
pub data Location : Type 0 where
  in_process : ℕ → Location
  in_object : ℕ → Location

abbrev pub with_state : Memory → StateView → Memory
with_state m s = record { state = s; locals = m.locals }

-- what a variable holds; a slot that is not there holds nil
abbrev pub read : Location → Slot → Memory → Value
read (in_process frame) (Local i) m = local m.state frame i
read (in_process frame) (Shared i) m = variable m.state i
read (in_object r) (Local i) m = value_at m.locals i
read (in_object r) (Shared i) m = item m.state r i
read p Unknown m = Nil

-- a variable is given a value; a slot that is not there stays so
abbrev pub write : Location → Slot → Value → Memory → Memory
write (in_process frame) (Local i) y m = with_state m (set_local m.state frame i y)
write (in_process frame) (Shared i) y m = with_state m (set_variable m.state i y)
write (in_object r) (Local i) y m = record { state = m.state; locals = slice_set m.locals i y }
write (in_object r) (Shared i) y m = with_state m (set_item m.state r i y)
write p Unknown y m = m

-- what `self` is; outside the methods of objects there is none
abbrev pub self_at : Location → Value
self_at (in_object r) = Value.Ref r
self_at (in_process frame) = Nil

-- a data method begins: its inputs are the arguments, and its other locals, of so many in all, are nil
abbrev pub started : ℕ → List Value → Memory → Memory
started count arguments m = record { state = m.state; locals = arguments ++ nils (count - length arguments) }

-- the caller, which has these locals, goes on with the state that the method left
abbrev pub left : List Value → Memory → Memory
left locals m = record { state = m.state; locals = locals }
