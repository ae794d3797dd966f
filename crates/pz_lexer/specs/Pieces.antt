-- The pieces that a text is cut into.
use Rattle.std.specs.Prelude.{◌≡◌, ℕ, List, [], ◌∷◌, ◌++◌, true, pos}
use Rattle.pz_syntax.specs.declared.tokens.Symbol.{Symbol}
use Rattle.pz_syntax.specs.declared.tokens.TokenKind.{TokenKind}
use Rattle.pz_lexer.specs.declared.sorts.Sort.{Sort}
use Rattle.pz_lexer.specs.Bytes.{is_blank}
use Rattle.pz_lexer.specs.Words.{IsWord, word_kind}
use Rattle.pz_lexer.specs.Numbers.{IsInteger, IsFloat}
use Rattle.pz_lexer.specs.Symbols.{IsSymbol}
use Rattle.pz_lexer.specs.Comments.{IsLineComment, IsBlockComment}
use Rattle.pz_lexer.specs.Quoted.{IsString, IsCharacter}

-- This text, where that rest follows it, is a piece of this sort. Each blank is a piece by itself; the
-- others are as long as their place allows.
pub data IsPiece : List ℕ → Sort → List ℕ → Type 0 where
  a_blank : {b : ℕ} {rest : List ℕ} → is_blank b ≡ true → IsPiece (b ∷ []) Sort.Blank rest
  a_line_comment : {text rest : List ℕ} → IsLineComment text rest → IsPiece text Sort.LineComment rest
  a_block_comment : {text rest : List ℕ} → IsBlockComment text → IsPiece text Sort.BlockComment rest
  a_word : {text rest : List ℕ} → IsWord text rest → IsPiece text (Sort.Token (word_kind text)) rest
  an_integer : {text rest : List ℕ} {value : ℕ} → IsInteger text value rest → IsPiece text (Sort.Token (TokenKind.Int (pos value))) rest
  a_float : {text rest : List ℕ} → IsFloat text rest → IsPiece text (Sort.Token TokenKind.Float) rest
  a_character : {text rest : List ℕ} {value : ℕ} → IsCharacter text value → IsPiece text (Sort.Token (TokenKind.Char value)) rest
  a_string : {text rest values : List ℕ} → IsString text values → IsPiece text (Sort.Token (TokenKind.Str values)) rest
  a_symbol : {text rest : List ℕ} {symbol : Symbol} → IsSymbol text symbol rest → IsPiece text (Sort.Token (TokenKind.Sym symbol)) rest

pub record Piece : Type 0 where
  pub text : List ℕ
  pub sort : Sort

-- the text that pieces make
abbrev pub joined : List Piece → List ℕ
joined [] = []
joined (p ∷ ps) = p.text ++ joined ps

-- Each is a piece where the others, and then that rest, follow it.
abbrev pub ArePieces : List Piece → List ℕ → Type 0
ArePieces [] rest = Unit {0}
ArePieces (p ∷ ps) rest = IsPiece p.text p.sort (joined ps ++ rest) × ArePieces ps rest
