-- What it is to find what stands first in a text.
use Rattle.std.proofs.Common.{◌<◌, length, arith, ◌≡◌, ℕ, List, [], ◌∷◌, ◌++◌, Bool, true}
use Rattle.pz_lexer.specs.Bytes.{begins}
use Rattle.pz_lexer.specs.Pieces.{IsPiece}
use Rattle.pz_lexer.specs.Refusals.{Stops}
use Rattle.pz_lexer.specs.devices.Step.{Step, piece, stop}

-- there is a first byte
abbrev pub HasByte : List ℕ → Type 0
HasByte [] = ⊥
HasByte (b ∷ bs) = Unit {0}

-- the step is right about the text
abbrev pub IsRight : List ℕ → Step → Type 0
IsRight all (piece text sort rest) = (text ++ rest ≡ all) × HasByte text × IsPiece text sort rest
IsRight all (stop before rest reason) = (before ++ rest ≡ all) × Stops before rest reason

-- a text that begins with a byte of some sort has a first byte
pub some_begins : (sort : ℕ → Bool) (text : List ℕ) → begins sort text ≡ true → HasByte text
some_begins sort [] e = absurd (cc)
some_begins sort (b ∷ bs) e = tt

pub some_length : (text : List ℕ) → HasByte text → 0 < length text
some_length [] some = absurd some
some_length (b ∷ bs) some = omega arith
