-- How a token or a comment is written.
use Rattle.std.specs.Prelude.{ℕ, ◌+◌, ◌-◌, ◌/◌, ◌%◌, ◌||◌, ◌&&◌, ◌==◌, nat_le, nat_lt, if◌then◌else◌, List, [], ◌∷◌, ◌++◌, codes}
use Rattle.std.specs.List.{flat_map}
use Rattle.std.specs.Fmt.{signed_decimal}
use Rattle.pz_syntax.specs.pz_items.Characters.{byte}
use Rattle.pz_syntax.specs.declared.tokens.TokenKind.{TokenKind}
use Rattle.pz_syntax.specs.declared.tokens.TokenKind.TheVariants as kind
use Rattle.pz_lexer.specs.declared.kept.Piece.{Piece}
use Rattle.pz_format.specs.Spellings.{keyword_text, symbol_text}

-- lower case hexadecimal
abbrev pub hex_digit : ℕ → ℕ
hex_digit d = if nat_lt d 10 then byte "0" + d else (byte "a" - 10) + d

-- an item between these quotes: a backslash or a quote after a backslash, a byte from 32 to 126 as it
-- is, and any other as `\x` with two digits
abbrev pub item_text : ℕ → ℕ → List ℕ
item_text quote b =
    if b == byte "\\" || b == quote then byte "\\" ∷ b ∷ []
    else (if nat_le (byte " ") b && nat_le b (byte "~") then b ∷ []
    else byte "\\" ∷ byte "x" ∷ hex_digit (b / 16) ∷ hex_digit (b % 16) ∷ [])

-- items and the quotes around them
abbrev pub quoted : ℕ → List ℕ → List ℕ
quoted quote bytes = quote ∷ (flat_map (item_text quote) bytes ++ quote ∷ [])

-- A float, of which only its presence is kept, is written as some float.
abbrev pub kind_text : TokenKind → List ℕ
kind_text (kind.Ident name) = name
kind_text (kind.Key keyword) = keyword_text keyword
kind_text (kind.Int value) = signed_decimal value
kind_text kind.Float = codes "0.0"
kind_text (kind.Char value) = quoted (byte "'") (value ∷ [])
kind_text (kind.Str values) = quoted (byte "\"") values
kind_text (kind.Sym symbol) = symbol_text symbol

-- comments are written as they are
abbrev pub piece_text : Piece → List ℕ
piece_text (Piece.Token t) = kind_text t.mark.kind
piece_text (Piece.Line text) = text
piece_text (Piece.Block text) = text
