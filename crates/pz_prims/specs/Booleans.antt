-- What a Boolean answers.
use Rattle.std.specs.Prelude.{Bool, not, ◌&&◌, ◌||◌, if◌then◌else◌, [], ◌∷◌, Ok, Err, codes}
use Rattle.std.specs.Bool.{beq}
use Rattle.pz_state.specs.pz_value.declared.value.Value.{Value}
use Rattle.pz_state.specs.pz_value.declared.value.Value.TheVariants.{Bool as Boolean, Str}
use Rattle.pz_state.specs.declared.fault.FaultKind.TheVariants.{NotBoolean}
use Rattle.pz_prims.specs.Rows.{Rows, Answer}

-- an argument that has to be a Boolean
abbrev pub of_boolean : (Bool → Answer Value) → Value → Answer Value
of_boolean answer (Boolean b) = answer b
of_boolean answer v = Err NotBoolean

unfoldable pub booleans : Bool → Rows Value
booleans a = record {
  alone =
      (codes "!", Ok (Boolean (not a))) ∷
      (codes "not", Ok (Boolean (not a))) ∷
      (codes "asString", Ok (Str (if a then codes "true" else codes "false"))) ∷ [];
  with_one =
      (codes "&", of_boolean (λ b. Ok (Boolean (a && b)))) ∷
      (codes "|", of_boolean (λ b. Ok (Boolean (a || b)))) ∷
      (codes "xor", of_boolean (λ b. Ok (Boolean (not (beq a b))))) ∷ [];
  with_two = [];
}
