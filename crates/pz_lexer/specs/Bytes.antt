-- Sorts of bytes, and what a text begins with.
use Rattle.std.specs.Prelude.{ℕ, List, [], ◌∷◌, Bool, false, ◌||◌, ◌&&◌, ◌==◌, nat_le}
use Rattle.pz_syntax.specs.pz_items.Characters.{byte}

-- a tab, an LF, a CR or a blank
abbrev pub is_blank : ℕ → Bool
is_blank b = b == byte "\t" || b == byte "\n" || b == byte "\r" || b == byte " "

abbrev pub is_digit : ℕ → Bool
is_digit b = nat_le (byte "0") b && nat_le b (byte "9")

-- an ASCII letter or `_`
abbrev pub is_letter : ℕ → Bool
is_letter b = (nat_le (byte "A") b && nat_le b (byte "Z")) || (nat_le (byte "a") b && nat_le b (byte "z")) || b == byte "_"

-- what an identifier has after its first letter
abbrev pub is_word : ℕ → Bool
is_word b = is_letter b || is_digit b

-- whether a text begins with a byte of this sort
abbrev pub begins : (ℕ → Bool) → List ℕ → Bool
begins sort [] = false
begins sort (b ∷ bs) = sort b
