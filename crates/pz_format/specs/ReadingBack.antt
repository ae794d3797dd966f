-- What of a layout is read back.
use Rattle.std.specs.Prelude.{◌≡◌, ℕ, List, [], ◌∷◌, map, Bool, true, false, nat_lt}
use Rattle.std.specs.List.{list_all}
use Rattle.pz_syntax.specs.declared.tokens.Symbol.TheVariants as s
use Rattle.pz_syntax.specs.declared.tokens.TokenKind.{TokenKind}
use Rattle.pz_syntax.specs.declared.tokens.TokenKind.TheVariants as kind
use Rattle.pz_lexer.specs.declared.kept.Piece.{Piece}
use Rattle.pz_lexer.specs.Places.{origin}
use Rattle.pz_syntax.specs.Classes.{ModelTree}
use Rattle.pz_syntax.specs.ModelForm.{IsModel}
use Rattle.pz_syntax.specs.ModelText as mt
use Rattle.pz_lexer.specs.Kept.{AreKept, tokens_among}

-- two tokens that make another one where no blank stands between them: `!` and `=` or `==`; and a `.`
-- and a number, which with a number before them make a float. In no model one follows the other.
abbrev pub merge : TokenKind → TokenKind → Bool
merge (kind.Sym s.Bang) (kind.Sym s.Equal) = true
merge (kind.Sym s.Bang) (kind.Sym s.Same) = true
merge (kind.Sym s.Dot) (kind.Int value) = true
merge (kind.Sym s.Dot) kind.Float = true
merge _ _ = false

abbrev pub pieces_merge : Piece → Piece → Bool
pieces_merge (Piece.Token p) (Piece.Token x) = merge p.mark.kind x.mark.kind
pieces_merge _ _ = false

-- no two neighbours merge, of a piece and those behind it
abbrev pub StandApartBehind : Piece → List Piece → Type 0
StandApartBehind p [] = Unit {0}
StandApartBehind p (x ∷ xs) = (pieces_merge p x ≡ false) × StandApartBehind x xs

abbrev pub StandApart : List Piece → Type 0
StandApart [] = Unit {0}
StandApart (x ∷ xs) = StandApartBehind x xs

-- a piece wherever it stands
abbrev pub without_place : Piece → Piece
without_place (Piece.Token t) = Piece.Token (record t { pos = origin })
without_place (Piece.Line text) = Piece.Line text
without_place (Piece.Block text) = Piece.Block text

-- The pieces of the text are these, head marks included, but for their places.
pub record ReadsBack (text : List ℕ) (pieces : List Piece) : Type 0 where
  pub read : List Piece
  pub is_read : AreKept text read
  pub same : map without_place read ≡ map without_place pieces

-- a text of bytes
abbrev pub is_byte : ℕ → Bool
is_byte b = nat_lt b 256

-- the text is one of bytes, these are its tokens and comments, and the tokens are the text of this model of
-- the grammar
pub record IsModelText (model : ModelTree) (text : List ℕ) (pieces : List Piece) : Type 0 where
  pub bytes : list_all is_byte text ≡ true
  pub kept : AreKept text pieces
  pub is_model : IsModel model
  pub is_text : map (λ t. t.mark) (tokens_among pieces) ≡ mt.text model
