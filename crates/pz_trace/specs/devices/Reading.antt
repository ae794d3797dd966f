-- What stands first in a text.
use Rattle.std.specs.Prelude.{◌≡◌, ◌<◌, ◌^◌, ℕ, suc, nat_eq, false, List, ◌∷◌, ◌++◌, codes, length, take, drop}
use Rattle.std.specs.List.{list_any}
use Rattle.std.specs.Fmt.{decimal}

-- the byte does not stand in the text
abbrev pub Lacks : ℕ → List ℕ → Type 0
Lacks byte text = list_any (nat_eq byte) text ≡ false

-- it stands at this place, and not before
pub record StandsFirst (byte : ℕ) (text : List ℕ) (place : ℕ) : Type 0 where
  pub within : place < length text
  pub before : Lacks byte (take place text)
  pub splits : text ≡ take place text ++ (byte ∷ drop (suc place) text)

-- a number without a leading zero, a blank, and then this
pub record BeginsWithNumber (text : List ℕ) (n : ℕ) (rest : List ℕ) : Type 0 where
  pub fits : n < 2 ^ 128
  pub is_text : text ≡ decimal n ++ (codes " " ++ rest)
