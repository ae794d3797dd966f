-- For private functions: a text is cut into tokens and comments, none of them marked yet.
use Rattle.std.specs.Prelude.{◌≡◌, ℕ, take, List, [], ◌∷◌, ◌++◌, false}
use Rattle.pz_syntax.specs.declared.tokens.Pos.{Pos}
use Rattle.pz_lexer.specs.declared.sorts.Stop.{Stop}
use Rattle.pz_lexer.specs.declared.error.LexError.{LexError}
use Rattle.pz_lexer.specs.Pieces.{Piece, joined, ArePieces}
use Rattle.pz_lexer.specs.Places.{origin, place_after}
use Rattle.pz_lexer.specs.declared.sorts.Sort.{Sort}
use Rattle.pz_lexer.specs.declared.kept.Piece.{Piece as Kept}
use Rattle.pz_lexer.specs.Tokens.{error_at}
use Rattle.pz_lexer.specs.Kept.{trimmed}

-- what is kept of a piece at this place; a token is not marked
abbrev pub unmarked_piece : Sort → Pos → List ℕ → List Kept
unmarked_piece Sort.Blank pos text = []
unmarked_piece Sort.LineComment pos text = Kept.Line (trimmed text) ∷ []
unmarked_piece Sort.BlockComment pos text = Kept.Block text ∷ []
unmarked_piece (Sort.Token kind) pos text = Kept.Token (record { mark = record { kind = kind; head = false }; pos = pos }) ∷ []

-- what is kept of pieces of which the first stands at this place
abbrev pub unmarked : Pos → List Piece → List Kept
unmarked pos [] = []
unmarked pos (p ∷ ps) = unmarked_piece p.sort pos p.text ++ unmarked (place_after pos p.text) ps

-- The text is cut into pieces, and these are their tokens and comments, none of them marked.
pub record AreCutInto (text : List ℕ) (kept : List Kept) : Type 0 where
  pub pieces : List Piece
  pub spelling : joined pieces ≡ text
  pub cut : ArePieces pieces []
  pub kept_are : kept ≡ unmarked origin pieces

-- the refusal of a stop in a text that stands at this place
abbrev pub Refuses : Stop → Pos → List ℕ → LexError → Type 0
Refuses Stop.NoMemory pos rest error = error ≡ LexError.NoMemory
Refuses (Stop.Refused reason at) pos rest error = error ≡ error_at reason (place_after pos (take at rest))
