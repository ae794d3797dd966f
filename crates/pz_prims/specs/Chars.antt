-- What a Char answers. A Char is a byte.
use Rattle.std.specs.Prelude.{ℕ, nat_lt, nat_le, pos, [], ◌∷◌, Ok, Err, codes}
use Rattle.pz_state.specs.pz_value.declared.value.Value.{Value}
use Rattle.pz_state.specs.pz_value.declared.value.Value.TheVariants.{Bool as Boolean, Int, Char, Str}
use Rattle.pz_state.specs.declared.fault.FaultKind.TheVariants.{NotUnderstood}
use Rattle.pz_prims.specs.Rows.{Rows, Answer}

-- an argument that has to be a Char
abbrev pub of_char : (ℕ → Answer Value) → Value → Answer Value
of_char answer (Char b) = answer b
of_char answer v = Err NotUnderstood

unfoldable pub chars : ℕ → Rows Value
chars a = record {
  alone =
      (codes "asInteger", Ok (Int (pos a))) ∷
      (codes "asString", Ok (Str (a ∷ []))) ∷ [];
  with_one =
      (codes "<", of_char (λ b. Ok (Boolean (nat_lt a b)))) ∷
      (codes "<=", of_char (λ b. Ok (Boolean (nat_le a b)))) ∷
      (codes ">", of_char (λ b. Ok (Boolean (nat_lt b a)))) ∷
      (codes ">=", of_char (λ b. Ok (Boolean (nat_le b a)))) ∷ [];
  with_two = [];
}
