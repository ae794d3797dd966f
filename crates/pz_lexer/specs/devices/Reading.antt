-- For private functions: what it is to read the front of a text.
use Rattle.std.specs.Prelude.{ℕ, ◌≤◌, ◌<◌, List, length, take, drop, Result, Ok, Err}
use Rattle.pz_lexer.specs.declared.sorts.Found.{Found}
use Rattle.pz_lexer.specs.declared.sorts.Stop.{Stop}
use Rattle.pz_lexer.specs.Pieces.{IsPiece}
use Rattle.pz_lexer.specs.Refusals.{Stops}

-- memory ran out, or the cut of the text stops at this place
abbrev pub StopsAt : List ℕ → Stop → Type 0
StopsAt text Stop.NoMemory = Unit {0}
StopsAt text (Stop.Refused reason at) = (at ≤ length text) × Stops (take at text) (drop at text) reason

-- so many bytes of the text are a piece of this sort
pub record IsFound (text : List ℕ) (found : Found) : Type 0 where
  pub some : 0 < found.len
  pub within : found.len ≤ length text
  pub piece : IsPiece (take found.len text) found.sort (drop found.len text)

-- a piece, or where the cut stops
abbrev pub Reads : List ℕ → Result Found Stop → Type 0
Reads text (Ok found) = IsFound text found
Reads text (Err stop) = StopsAt text stop
