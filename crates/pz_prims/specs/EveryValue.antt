-- What every value answers, whatever its sort.
use Rattle.std.specs.Prelude.{Bool, true, false, not, ◌==◌, [], ◌∷◌, Ok, codes, bytes_eq}
use Rattle.std.specs.Bool.{beq}
use Rattle.std.specs.Ordering.{int_eq}
use Rattle.pz_state.specs.pz_value.declared.value.Value.{Value}
use Rattle.pz_state.specs.pz_value.declared.value.Value.TheVariants.{Nil, Bool as Boolean, Int, Char, Str, Ref}
use Rattle.pz_prims.specs.Rows.{Rows}

-- Values of different sorts differ. A reference is the same as another to that object alone, and
-- all other values are compared by what they are.
abbrev pub same : Value → Value → Bool
same Nil Nil = true
same (Boolean a) (Boolean b) = beq a b
same (Int a) (Int b) = int_eq a b
same (Char a) (Char b) = a == b
same (Str a) (Str b) = bytes_eq a b
same (Ref a) (Ref b) = a == b
same v w = false

abbrev pub is_nil : Value → Bool
is_nil Nil = true
is_nil v = false

unfoldable pub every_value : Value → Rows Value
every_value v = record {
  alone =
      (codes "isNil", Ok (Boolean (is_nil v))) ∷ [];
  with_one =
      (codes "=", λ w. Ok (Boolean (same v w))) ∷
      (codes "==", λ w. Ok (Boolean (same v w))) ∷
      (codes "!=", λ w. Ok (Boolean (not (same v w)))) ∷
      (codes "!==", λ w. Ok (Boolean (not (same v w)))) ∷ [];
  with_two = [];
}
