-- The tokens of a text, and its refusal.
use Rattle.std.specs.Prelude.{◌≡◌, ℕ, List, [], ◌∷◌, ◌++◌, map, Bool, Result, Ok, Err}
use Rattle.pz_syntax.specs.declared.tokens.Pos.{Pos}
use Rattle.pz_syntax.specs.declared.tokens.Token.{Token}
use Rattle.pz_syntax.specs.declared.tokens.TokenKind.{TokenKind}
use Rattle.pz_syntax.specs.Heads.{heads}
use Rattle.pz_lexer.specs.declared.sorts.Sort.{Sort}
use Rattle.pz_lexer.specs.Pieces.{Piece, joined, ArePieces}
use Rattle.pz_lexer.specs.declared.sorts.Reason.{Reason}
use Rattle.pz_lexer.specs.Refusals.{Stops}
use Rattle.pz_lexer.specs.Places.{origin, place_after}
use Rattle.pz_lexer.specs.declared.error.LexError.{LexError}

-- what a token is, and where
pub record Placed : Type 0 where
  pub kind : TokenKind
  pub pos : Pos

-- a piece that is kept is a token
abbrev pub kept : Sort → Pos → List Placed
kept (Sort.Token kind) pos = record { kind = kind; pos = pos } ∷ []
kept Sort.Blank pos = []
kept Sort.LineComment pos = []
kept Sort.BlockComment pos = []

-- the tokens among pieces of which the first stands at this place
abbrev pub placed : Pos → List Piece → List Placed
placed pos [] = []
placed pos (p ∷ ps) = kept p.sort pos ++ placed (place_after pos p.text) ps

-- tokens that are marked as heads or not
abbrev pub marked : List Placed → List Bool → List Token
marked (t ∷ ts) (head ∷ heads) = record { mark = record { kind = t.kind; head = head }; pos = t.pos } ∷ marked ts heads
marked _ _ = []

-- the tokens among the pieces of a whole text
abbrev pub tokens_of : List Piece → List Token
tokens_of ps = marked (placed origin ps) (heads (map (λ t. t.kind) (placed origin ps)))

-- The text is cut into pieces, and these are their tokens.
pub record AreTokens (text : List ℕ) (tokens : List Token) : Type 0 where
  pub pieces : List Piece
  pub spelling : joined pieces ≡ text
  pub cut : ArePieces pieces []
  pub kept : tokens_of pieces ≡ tokens

-- a refusal of the code
abbrev pub error_at : Reason → Pos → LexError
error_at Reason.BadByte pos = LexError.BadByte pos
error_at Reason.OpenComment pos = LexError.OpenComment pos
error_at Reason.OpenString pos = LexError.OpenString pos
error_at Reason.BadNumber pos = LexError.BadNumber pos

-- A front of the text is cut into pieces, and behind it the cut stops: this is the refusal.
pub record IsRefused (text : List ℕ) (refusal : LexError) : Type 0 where
  pub pieces : List Piece
  pub before : List ℕ
  pub rest : List ℕ
  pub reason : Reason
  pub spelling : joined pieces ++ (before ++ rest) ≡ text
  pub cut : ArePieces pieces (before ++ rest)
  pub stops : Stops before rest reason
  pub error : error_at reason (place_after origin (joined pieces ++ before)) ≡ refusal

-- an answer of the code that is this one, unless memory ran out
abbrev pub Answers : Result (List Token) LexError → Result (List Token) LexError → Type 0
Answers (Ok tokens) answer = answer ≡ Ok tokens
Answers (Err LexError.NoMemory) answer = Unit {0}
Answers (Err error) answer = answer ≡ Err error
