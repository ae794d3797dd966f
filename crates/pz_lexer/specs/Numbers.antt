-- Integers and floats.
use Rattle.std.specs.Prelude.{◌≡◌, ℕ, ◌+◌, ◌*◌, ◌-◌, ◌^◌, ◌<◌, List, [], ◌∷◌, ◌++◌, Bool, true, false, ◌&&◌, ◌==◌, fold}
use Rattle.std.specs.List.{list_all}
use Rattle.pz_syntax.specs.pz_items.Characters.{byte}
use Rattle.pz_lexer.specs.Bytes.{is_digit, is_word, begins}

-- at least one digit, and nothing else
pub record AreDigits (text : List ℕ) : Type 0 where
  pub some : begins is_digit text ≡ true
  pub all : list_all is_digit text ≡ true

-- the number that decimal digits stand for
abbrev pub value_of : List ℕ → ℕ
value_of digits = fold (λ n d. 10 * n + (d - byte "0")) 0 digits

-- a `.` and a digit: what makes the digits before it a float
abbrev pub begins_fraction : List ℕ → Bool
begins_fraction [] = false
begins_fraction (b ∷ bs) = b == byte "." && begins is_digit bs

-- Digits that no digit, letter or fraction follows.
pub record IsInteger (text : List ℕ) (value : ℕ) (rest : List ℕ) : Type 0 where
  pub digits : AreDigits text
  pub whole : begins is_word rest ≡ false
  pub no_fraction : begins_fraction rest ≡ false
  pub stands_for : value_of text ≡ value
  pub fits : value < 2 ^ 63

-- Digits, a `.` and digits, that no digit or letter follows.
pub record IsFloat (text rest : List ℕ) : Type 0 where
  pub front : List ℕ
  pub fraction : List ℕ
  pub spelling : text ≡ front ++ byte "." ∷ fraction
  pub digits : AreDigits front
  pub decimals : AreDigits fraction
  pub whole : begins is_word rest ≡ false
