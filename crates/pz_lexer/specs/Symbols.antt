-- Symbols, by longest match.
use Rattle.std.specs.Prelude.{◌≡◌, ℕ, ◌≤◌, List, [], ◌∷◌, ◌++◌, length, false, Some, IsSome, codes}
use Rattle.pz_syntax.specs.declared.tokens.Symbol.{Symbol}
use Rattle.pz_lexer.specs.Spellings.{spelled}
use Rattle.pz_lexer.specs.Comments.{begins_comment}

-- how symbols are spelled
abbrev pub symbols : List (List ℕ × Symbol)
symbols =
    (codes "(", Symbol.LeftParen) ∷
    (codes ")", Symbol.RightParen) ∷
    (codes "{", Symbol.LeftBrace) ∷
    (codes "}", Symbol.RightBrace) ∷
    (codes "[", Symbol.LeftBracket) ∷
    (codes "]", Symbol.RightBracket) ∷
    (codes ",", Symbol.Comma) ∷
    (codes ";", Symbol.Semicolon) ∷
    (codes ":", Symbol.Colon) ∷
    (codes ":=", Symbol.Assign) ∷
    (codes "!", Symbol.Bang) ∷
    (codes "?", Symbol.Query) ∷
    (codes "|", Symbol.Bar) ∷
    (codes ".", Symbol.Dot) ∷
    (codes "+", Symbol.Plus) ∷
    (codes "-", Symbol.Minus) ∷
    (codes "*", Symbol.Star) ∷
    (codes "/", Symbol.Slash) ∷
    (codes "=", Symbol.Equal) ∷
    (codes "==", Symbol.Same) ∷
    (codes "!=", Symbol.Unequal) ∷
    (codes "!==", Symbol.Distinct) ∷
    (codes "<", Symbol.Less) ∷
    (codes "<=", Symbol.LessEqual) ∷
    (codes ">", Symbol.Greater) ∷
    (codes ">=", Symbol.GreaterEqual) ∷
    (codes "&", Symbol.Ampersand) ∷
    []

-- The text spells the symbol, no longer front of what stands there spells a symbol, and no comment
-- begins there.
pub record IsSymbol (text : List ℕ) (symbol : Symbol) (rest : List ℕ) : Type 0 where
  pub spells : spelled symbols text ≡ Some symbol
  pub longest : (more after : List ℕ) → text ++ rest ≡ more ++ after → IsSome (spelled symbols more) → length more ≤ length text
  pub apart : begins_comment (text ++ rest) ≡ false
