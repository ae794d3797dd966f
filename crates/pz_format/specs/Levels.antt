-- How deep a line stands.
use Rattle.std.specs.Prelude.{ℕ, ◌+◌, ◌-◌, ◌*◌, Bool, true, false, if◌then◌else◌, nat_lt, zero, suc, List, [], ◌∷◌}
use Rattle.pz_syntax.specs.pz_items.Characters.{byte}
use Rattle.pz_syntax.specs.declared.tokens.Keyword.{Keyword}
use Rattle.pz_syntax.specs.declared.tokens.Keyword.TheVariants as k
use Rattle.pz_syntax.specs.declared.tokens.Symbol.TheVariants as s
use Rattle.pz_syntax.specs.declared.tokens.TokenKind.{TokenKind}
use Rattle.pz_syntax.specs.declared.tokens.TokenKind.TheVariants as kind
use Rattle.pz_lexer.specs.declared.kept.Piece.{Piece}
use Rattle.pz_format.specs.declared.levels.Level.{Level}

-- `par sel if while ( [ {`
abbrev pub deepens : TokenKind → Bool
deepens (kind.Key k.Par) = true
deepens (kind.Key k.Sel) = true
deepens (kind.Key k.If) = true
deepens (kind.Key k.While) = true
deepens (kind.Sym s.LeftParen) = true
deepens (kind.Sym s.LeftBracket) = true
deepens (kind.Sym s.LeftBrace) = true
deepens _ = false

-- `rap les fi od ) ] }`
abbrev pub closes : TokenKind → Bool
closes (kind.Key k.Rap) = true
closes (kind.Key k.Les) = true
closes (kind.Key k.Fi) = true
closes (kind.Key k.Od) = true
closes (kind.Sym s.RightParen) = true
closes (kind.Sym s.RightBracket) = true
closes (kind.Sym s.RightBrace) = true
closes _ = false

-- a word that stands as deep as the one that opened what it parts or closes
abbrev pub parts_or_closes : Keyword → Bool
parts_or_closes k.And = true
parts_or_closes k.Rap = true
parts_or_closes k.Or = true
parts_or_closes k.Les = true
parts_or_closes k.Else = true
parts_or_closes k.Fi = true
parts_or_closes k.Od = true
parts_or_closes _ = false

abbrev pub steps_back : TokenKind → Bool
steps_back (kind.Key keyword) = parts_or_closes keyword
steps_back _ = false

abbrev pub count : Bool → ℕ
count b = if b then 1 else 0

-- whether a piece is a token of such a kind
abbrev pub token_is : (TokenKind → Bool) → Piece → Bool
token_is sort (Piece.Token t) = sort t.mark.kind
token_is sort _ = false

-- before the first piece nothing is opened or closed
abbrev pub start : Level
start = record { opened = 0; closed = 0 }

-- how much is opened and closed behind a piece
abbrev pub behind : Level → Piece → Level
behind level x = record { opened = level.opened + count (token_is deepens x); closed = level.closed + count (token_is closes x) }

-- how deep a line stands that begins with this piece
abbrev pub depth : Level → Piece → ℕ
depth level x = level.opened - level.closed - count (token_is steps_back x)

-- how many blanks a line of this depth begins with: two for each, at most 40
abbrev pub indent : ℕ → ℕ
indent depth = if nat_lt depth 20 then 2 * depth else 40

abbrev pub blanks : ℕ → List ℕ
blanks zero = []
blanks (suc n) = byte " " ∷ blanks n
