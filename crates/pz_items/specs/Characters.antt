-- Bytes written as what they spell.
use Rattle.std.specs.Prelude.{ℕ, List, [], ◌∷◌, codes}
use Prim.Native.String.{String}

abbrev pub first_byte : List ℕ → ℕ
first_byte [] = 0
first_byte (b ∷ bs) = b

-- the byte of an ASCII character, which is given as a text of its own
abbrev pub byte : String → ℕ
byte character = first_byte (codes character)
