-- What a digit begins, computed.
use Rattle.std.specs.Prelude.{ℕ, ◌^◌, List, [], ◌∷◌, ◌++◌, Bool, true, false, ◌||◌, nat_le, drop, pos}
use Rattle.pz_syntax.specs.declared.tokens.TokenKind.{TokenKind}
use Rattle.pz_lexer.specs.Bytes.{is_letter, is_digit, begins}
use Rattle.pz_lexer.specs.Numbers.{value_of, begins_fraction}
use Rattle.pz_lexer.specs.declared.sorts.Sort.{Sort}
use Rattle.pz_lexer.specs.declared.sorts.Reason.{Reason}
use Rattle.pz_lexer.specs.devices.Step.{piece, stop, Step, front, back}

-- a number, unless it is bad
abbrev pub number_by : Bool → List ℕ → TokenKind → List ℕ → Step
number_by true text kind rest = stop [] (text ++ rest) Reason.BadNumber
number_by false text kind rest = piece text (Sort.Token kind) rest

abbrev pub integer_step : List ℕ → List ℕ → Step
integer_step digits rest = number_by (begins is_letter rest || nat_le (2 ^ 63) (value_of digits)) digits (TokenKind.Int (pos (value_of digits))) rest

abbrev pub float_step : List ℕ → List ℕ → Step
float_step digits fraction = number_by (begins is_letter (back is_digit fraction)) (digits ++ 46 ∷ front is_digit fraction) TokenKind.Float (back is_digit fraction)

-- digits, and what follows them: whether that is a fraction
abbrev pub digits_by : Bool → List ℕ → List ℕ → Step
digits_by true digits rest = float_step digits (drop 1 rest)
digits_by false digits rest = integer_step digits rest

abbrev pub digits_step : List ℕ → List ℕ → Step
digits_step digits rest = digits_by (begins_fraction rest) digits rest

abbrev pub number_step : List ℕ → Step
number_step text = digits_step (front is_digit text) (back is_digit text)
