-- The tokens and comments of a text.
use Rattle.std.specs.Prelude.{◌≡◌, ℕ, List, [], ◌∷◌, if◌then◌else◌}
use Rattle.std.specs.List.{list_all}
use Rattle.pz_syntax.specs.declared.tokens.Token.{Token}
use Rattle.pz_lexer.specs.declared.sorts.Sort.{Sort}
use Rattle.pz_lexer.specs.declared.kept.Piece.{Piece as Kept}
use Rattle.pz_lexer.specs.Bytes.{is_blank}
use Rattle.pz_lexer.specs.Pieces.{Piece, joined, ArePieces}
use Rattle.pz_lexer.specs.Tokens.{tokens_of}

-- a text without the blanks at its end
abbrev pub trimmed : List ℕ → List ℕ
trimmed [] = []
trimmed (b ∷ bs) = if list_all is_blank (b ∷ bs) then [] else b ∷ trimmed bs

-- what is kept of a piece, before what is kept of the others: a comment, without the blanks at its end
-- where it ends with its line; of a piece that is a token the first of the tokens
abbrev pub kept_before : Sort → List ℕ → List Token → (List Token → List Kept) → List Kept
kept_before Sort.Blank text tokens others = others tokens
kept_before Sort.LineComment text tokens others = Kept.Line (trimmed text) ∷ others tokens
kept_before Sort.BlockComment text tokens others = Kept.Block text ∷ others tokens
kept_before (Sort.Token kind) text (t ∷ tokens) others = Kept.Token t ∷ others tokens
kept_before (Sort.Token kind) text [] others = others []

-- what is kept of pieces that have these tokens
abbrev pub with_comments : List Piece → List Token → List Kept
with_comments [] tokens = []
with_comments (p ∷ ps) tokens = kept_before p.sort p.text tokens (with_comments ps)

-- The text is cut into pieces, and these are their tokens and comments.
pub record AreKept (text : List ℕ) (kept : List Kept) : Type 0 where
  pub pieces : List Piece
  pub spelling : joined pieces ≡ text
  pub cut : ArePieces pieces []
  pub kept_are : with_comments pieces (tokens_of pieces) ≡ kept

-- those that are tokens
abbrev pub tokens_among : List Kept → List Token
tokens_among [] = []
tokens_among (Kept.Token t ∷ xs) = t ∷ tokens_among xs
tokens_among (Kept.Line text ∷ xs) = tokens_among xs
tokens_among (Kept.Block text ∷ xs) = tokens_among xs
