-- What a String answers. A String is a list of bytes.
use Rattle.std.specs.Prelude.{ℕ, zero, suc, nat_le, ℤ, pos, negsuc, List, [], ◌∷◌, ◌++◌, length, slice_get, Option, None, Ok, Err, if◌then◌else◌, codes}
use Rattle.std.specs.Option.{option_map_or}
use Rattle.pz_state.specs.pz_value.declared.value.Value.{Value}
use Rattle.pz_state.specs.pz_value.declared.value.Value.TheVariants.{Int, Char, Str}
use Rattle.pz_state.specs.declared.fault.FaultKind.TheVariants.{NotUnderstood, StoreFull, Index}
use Rattle.pz_prims.specs.Rows.{Rows, Answer}
use Rattle.pz_prims.specs.Integers.{of_integer}

-- an argument that has to be a String
abbrev pub of_string : (List ℕ → Answer Value) → Value → Answer Value
of_string answer (Str b) = answer b
of_string answer v = Err NotUnderstood

-- the most bytes of a String
abbrev pub string_limit : ℕ
string_limit = 1048576

abbrev pub string : List ℕ → Answer Value
string bytes = if nat_le (length bytes) string_limit then Ok (Str bytes) else Err StoreFull

-- what stands at a place, of which the first is 1
abbrev pub at_place : {A : Type 0} → List A → ℤ → Option A
at_place items (pos zero) = None
at_place items (pos (suc before)) = slice_get items before
at_place items (negsuc n) = None

abbrev pub char_at : List ℕ → ℤ → Answer Value
char_at bytes place = option_map_or (λ byte. Ok (Char byte)) (at_place bytes place) (Err Index)

unfoldable pub strings : List ℕ → Rows Value
strings a = record {
  alone =
      (codes "size", Ok (Int (pos (length a)))) ∷
      (codes "asString", Ok (Str a)) ∷ [];
  with_one =
      (codes "+", of_string (λ b. string (a ++ b))) ∷
      (codes "concat", of_string (λ b. string (a ++ b))) ∷
      (codes "get", of_integer (char_at a)) ∷ [];
  with_two = [];
}
