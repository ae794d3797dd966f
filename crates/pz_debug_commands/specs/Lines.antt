-- The lines of a text. Each ends at an LF, which is no part of it. What stands behind the last LF is a
-- line too where it is not empty; an empty line is one.
use Rattle.std.specs.Prelude.{◌≡◌, ◌≢◌, ⊤, ℕ, List, [], ◌∷◌, ◌++◌, codes}
use Rattle.pz_items.specs.Characters.{byte}

-- the byte does not stand in the text
abbrev pub Lacks : ℕ → List ℕ → Type 0
Lacks c [] = ⊤
Lacks c (b ∷ bs) = (b ≢ c) × Lacks c bs

-- the first line of a text, and what is left behind it
pub data BeginsWithLine (text line rest : List ℕ) : Type 0 where
  ended : Lacks (byte "\n") line → text ≡ line ++ (codes "\n" ++ rest) → BeginsWithLine text line rest
  last : Lacks (byte "\n") line → line ≢ [] → text ≡ line → rest ≡ [] → BeginsWithLine text line rest
