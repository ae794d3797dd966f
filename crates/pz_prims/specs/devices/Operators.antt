-- Selectors with one argument by names of the code's own, and what each name means.
use Rattle.std.specs.Prelude.{ℕ, nat_lt, nat_le, ℤ, ◌+ℤ◌, ◌-ℤ◌, ◌*ℤ◌, int_lt, int_le, int_div, Bool, not, ◌&&◌, ◌||◌, List, [], ◌∷◌, ◌++◌, Ok, codes}
use Rattle.std.specs.Bool.{beq}
use Rattle.std.specs.Int.{int_min, int_max}
use Rattle.pz_state.specs.pz_value.declared.value.Value.{Value}
use Rattle.pz_state.specs.pz_value.declared.value.Value.TheVariants.{Bool as Boolean, Int}
use Rattle.pz_state.specs.States.{StateView}
use Rattle.pz_prims.specs.declared.every_value.Equality.{Equality}
use Rattle.pz_prims.specs.declared.integers.Operator.{Operator}
use Rattle.pz_prims.specs.declared.booleans.Connective.{Connective}
use Rattle.pz_prims.specs.declared.chars.Comparison.{Comparison}
use Rattle.pz_prims.specs.declared.strings.Operation.{Operation}
use Rattle.pz_prims.specs.declared.arrays.Request.{Request}
use Rattle.pz_prims.specs.Rows.{Answer}
use Rattle.pz_prims.specs.EveryValue.{same}
use Rattle.pz_prims.specs.Integers.{number, of_integer, divided_by}
use Rattle.pz_prims.specs.Booleans.{of_boolean}
use Rattle.pz_prims.specs.Chars.{of_char}
use Rattle.pz_prims.specs.Strings.{of_string, string, char_at}
use Rattle.pz_prims.specs.Arrays.{Changed, resize, item_at}

-- Every value

abbrev pub equalities : List (List ℕ × Equality)
equalities =
    (codes "=", Equality.Same) ∷
    (codes "==", Equality.Same) ∷
    (codes "!=", Equality.Different) ∷
    (codes "!==", Equality.Different) ∷ []

abbrev pub tested : Equality → Bool → Bool
tested Equality.Same b = b
tested Equality.Different b = not b

abbrev pub equality_row : Value → Equality → Value → Answer Value
equality_row v e w = Ok (Boolean (tested e (same v w)))

-- Integers

abbrev pub operators : List (List ℕ × Operator)
operators =
    (codes "+", Operator.Sum) ∷
    (codes "-", Operator.Difference) ∷
    (codes "*", Operator.Product) ∷
    (codes "/", Operator.Quotient) ∷
    (codes "div", Operator.Quotient) ∷
    (codes "modulo", Operator.Modulo) ∷
    (codes "<", Operator.Less) ∷
    (codes "<=", Operator.LessEqual) ∷
    (codes ">", Operator.Greater) ∷
    (codes ">=", Operator.GreaterEqual) ∷
    (codes "min", Operator.Min) ∷
    (codes "max", Operator.Max) ∷ []

abbrev pub computed : Operator → ℤ → ℤ → Answer Value
computed Operator.Sum a b = number (a +ℤ b)
computed Operator.Difference a b = number (a -ℤ b)
computed Operator.Product a b = number (a *ℤ b)
computed Operator.Quotient a b = divided_by b (number (int_div a b))
computed Operator.Modulo a b = divided_by b (Ok (Int (a -ℤ (int_div a b *ℤ b))))
computed Operator.Less a b = Ok (Boolean (int_lt a b))
computed Operator.LessEqual a b = Ok (Boolean (int_le a b))
computed Operator.Greater a b = Ok (Boolean (int_lt b a))
computed Operator.GreaterEqual a b = Ok (Boolean (int_le b a))
computed Operator.Min a b = Ok (Int (int_min a b))
computed Operator.Max a b = Ok (Int (int_max a b))

abbrev pub operator_row : ℤ → Operator → Value → Answer Value
operator_row a o = of_integer (computed o a)

-- Booleans

abbrev pub connectives : List (List ℕ × Connective)
connectives = (codes "&", Connective.And) ∷ (codes "|", Connective.Or) ∷ (codes "xor", Connective.Xor) ∷ []

abbrev pub connected : Connective → Bool → Bool → Bool
connected Connective.And a b = a && b
connected Connective.Or a b = a || b
connected Connective.Xor a b = not (beq a b)

abbrev pub connective_row : Bool → Connective → Value → Answer Value
connective_row a c = of_boolean (λ b. Ok (Boolean (connected c a b)))

-- Chars

abbrev pub comparisons : List (List ℕ × Comparison)
comparisons =
    (codes "<", Comparison.Less) ∷
    (codes "<=", Comparison.LessEqual) ∷
    (codes ">", Comparison.Greater) ∷
    (codes ">=", Comparison.GreaterEqual) ∷ []

abbrev pub compared : Comparison → ℕ → ℕ → Bool
compared Comparison.Less a b = nat_lt a b
compared Comparison.LessEqual a b = nat_le a b
compared Comparison.Greater a b = nat_lt b a
compared Comparison.GreaterEqual a b = nat_le b a

abbrev pub comparison_row : ℕ → Comparison → Value → Answer Value
comparison_row a c = of_char (λ b. Ok (Boolean (compared c a b)))

-- Strings

abbrev pub operations : List (List ℕ × Operation)
operations = (codes "+", Operation.Join) ∷ (codes "concat", Operation.Join) ∷ (codes "get", Operation.Get) ∷ []

abbrev pub operation_row : List ℕ → Operation → Value → Answer Value
operation_row a Operation.Join = of_string (λ b. string (a ++ b))
operation_row a Operation.Get = of_integer (char_at a)

-- Arrays

abbrev pub requests : List (List ℕ × Request)
requests = (codes "resize", Request.Resize) ∷ (codes "get", Request.Get) ∷ []

abbrev pub request_row : StateView → ℕ → Request → Value → Answer Changed
request_row s r Request.Resize = of_integer (resize s r)
request_row s r Request.Get = of_integer (item_at s r)
