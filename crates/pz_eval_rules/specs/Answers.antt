-- What an expression comes to.
use Rattle.std.specs.Prelude.{List, [], ◌∷◌}
use Rattle.pz_classes_rules.specs.pz_syntax.declared.tokens.Pos.{Pos}
use Rattle.pz_state.specs.pz_value.declared.value.Value.{Value}
use Rattle.pz_state.specs.declared.fault.FaultKind.{FaultKind}
use Rattle.pz_eval_rules.specs.Memories.{Memory, left}

-- Why there is no value: a `return` ends the body with this value, or this is wrong at this place. A
-- fault leaves nothing behind.
pub data Stop : Type 0 where
  ends : Value → Memory → Stop
  fault : FaultKind → Pos → Stop

-- an A, and what is left behind; or why there is none
pub data Answer (A : Type 0) : Type 0 where
  gives : A → Memory → Answer A
  stops : Stop → Answer A

-- what the caller, which has these locals, goes on with once the body of a method came to an answer
abbrev pub ended : List Value → Answer Value → Answer Value
ended locals (gives y m) = gives y (left locals m)
ended locals (stops (ends y m)) = gives y (left locals m)
ended locals (stops (fault kind at)) = stops (fault kind at)

-- of a list that no method has, a `return`, which no sound model has there, leaves its value alone
abbrev pub ended_list : Answer (List Value) → Answer (List Value)
ended_list (gives ys m) = gives ys m
ended_list (stops (ends y m)) = gives (y ∷ []) m
ended_list (stops (fault kind at)) = stops (fault kind at)
