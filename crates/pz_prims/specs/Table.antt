-- The table of what values answer to selectors.
use Rattle.std.specs.Prelude.{ℕ, ◌==◌, List, Bool, Option, None, Some, Ok, Err, option_map, if◌then◌else◌}
use Rattle.std.specs.Option.{option_map_or}
use Rattle.pz_state.specs.pz_value.declared.value.ClassId.{ClassId}
use Rattle.pz_state.specs.pz_value.declared.value.Value.{Value}
use Rattle.pz_state.specs.pz_value.declared.value.Value.TheVariants.{Nil, Bool as Boolean, Int, Char, Str, Ref}
use Rattle.pz_state.specs.declared.fault.FaultKind.TheVariants.{NotUnderstood}
use Rattle.pz_state.specs.States.{StateView, object}
use Rattle.pz_prims.specs.declared.answer.Prim.{Prim}
use Rattle.pz_prims.specs.Rows.{Answer, answered}
use Rattle.pz_prims.specs.EveryValue.{every_value}
use Rattle.pz_prims.specs.Integers.{integers}
use Rattle.pz_prims.specs.Booleans.{booleans}
use Rattle.pz_prims.specs.Chars.{chars}
use Rattle.pz_prims.specs.Strings.{strings}
use Rattle.pz_prims.specs.Arrays.{Changed, value_of, state_after, arrays}

-- what is answered, and the state afterwards
pub record Outcome : Type 0 where
  pub answer : Prim
  pub state : StateView

abbrev pub told : Answer Value → Prim
told (Ok value) = Prim.Value value
told (Err fault) = Prim.Fault fault

-- what no row has is not understood
abbrev pub understood : Option (Answer Value) → Prim
understood None = Prim.Fault NotUnderstood
understood (Some answer) = told answer

-- the same of an Array, which may have changed
abbrev pub of_array : StateView → Option (Answer Changed) → Outcome
of_array s answer = record { answer = understood (option_map value_of answer); state = state_after s answer }

-- Array is the class with the number 0
abbrev pub is_array : ClassId → Bool
is_array class = class.0 == 0

-- what the rows of its sort give, where a value is no reference
abbrev pub by_sort : Value → List ℕ → List Value → Option (Answer Value)
by_sort Nil selector args = None
by_sort (Boolean a) selector args = answered (booleans a) selector args
by_sort (Int a) selector args = answered (integers a) selector args
by_sort (Char a) selector args = answered (chars a) selector args
by_sort (Str a) selector args = answered (strings a) selector args
by_sort (Ref r) selector args = None

-- What a value answers beside what every value does. The class of an object that is no Array may
-- have a method for the selector.
abbrev pub of_itself : StateView → Value → List ℕ → List Value → Outcome
of_itself s (Ref r) selector args =
    if is_array (object s r).class then of_array s (answered (arrays s r) selector args) else record { answer = Prim.Other; state = s }
of_itself s v selector args = record { answer = understood (by_sort v selector args); state = s }

-- what a value answers in a state: by the rows of every value, or else of itself
unfoldable pub outcome : StateView → Value → List ℕ → List Value → Outcome
outcome s v selector args =
    option_map_or (λ answer. record { answer = told answer; state = s }) (answered (every_value v) selector args) (of_itself s v selector args)
