-- What an Integer answers. An Integer has 64 bits, one of them for its sign.
use Rattle.std.specs.Prelude.{◌==◌, ◌^◌, nat_lt, ℤ, pos, negsuc, neg_ℤ, ◌+ℤ◌, ◌-ℤ◌, ◌*ℤ◌, unsigned_abs, int_lt, int_le, int_div, Bool, false, if◌then◌else◌, [], ◌∷◌, Ok, Err, codes}
use Rattle.std.specs.Int.{int_min, int_max}
use Rattle.std.specs.Fmt.{signed_decimal}
use Rattle.pz_state.specs.pz_value.declared.value.Value.{Value}
use Rattle.pz_state.specs.pz_value.declared.value.Value.TheVariants.{Bool as Boolean, Int, Str}
use Rattle.pz_state.specs.declared.fault.FaultKind.TheVariants.{Overflow, DivideByZero, NotInteger}
use Rattle.pz_prims.specs.Rows.{Rows, Answer}

-- from -2^63 to 2^63 - 1, where negsuc n is -(n + 1)
abbrev pub fits : ℤ → Bool
fits (pos n) = nat_lt n (2 ^ 63)
fits (negsuc n) = nat_lt n (2 ^ 63)

abbrev pub number : ℤ → Answer Value
number z = if fits z then Ok (Int z) else Err Overflow

-- an argument that has to be an Integer
abbrev pub of_integer : {X : Type 0} → (ℤ → Answer X) → Value → Answer X
of_integer answer (Int b) = answer b
of_integer answer v = Err NotInteger

abbrev pub is_zero : ℤ → Bool
is_zero (pos n) = n == 0
is_zero (negsuc n) = false

abbrev pub divided_by : ℤ → Answer Value → Answer Value
divided_by b answer = if is_zero b then Err DivideByZero else answer

-- `int_div` is the quotient towards zero
unfoldable pub integers : ℤ → Rows Value
integers a = record {
  alone =
      (codes "-", number (neg_ℤ a)) ∷
      (codes "abs", number (pos (unsigned_abs a))) ∷
      (codes "asString", Ok (Str (signed_decimal a))) ∷ [];
  with_one =
      (codes "+", of_integer (λ b. number (a +ℤ b))) ∷
      (codes "-", of_integer (λ b. number (a -ℤ b))) ∷
      (codes "*", of_integer (λ b. number (a *ℤ b))) ∷
      (codes "/", of_integer (λ b. divided_by b (number (int_div a b)))) ∷
      (codes "div", of_integer (λ b. divided_by b (number (int_div a b)))) ∷
      (codes "modulo", of_integer (λ b. divided_by b (Ok (Int (a -ℤ (int_div a b *ℤ b)))))) ∷
      (codes "<", of_integer (λ b. Ok (Boolean (int_lt a b)))) ∷
      (codes "<=", of_integer (λ b. Ok (Boolean (int_le a b)))) ∷
      (codes ">", of_integer (λ b. Ok (Boolean (int_lt b a)))) ∷
      (codes ">=", of_integer (λ b. Ok (Boolean (int_le b a)))) ∷
      (codes "min", of_integer (λ b. Ok (Int (int_min a b)))) ∷
      (codes "max", of_integer (λ b. Ok (Int (int_max a b)))) ∷ [];
  with_two = [];
}
