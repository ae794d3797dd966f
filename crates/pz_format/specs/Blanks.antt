-- Where no blank stands within a line.
use Rattle.std.specs.Prelude.{Bool, true, false, ◌||◌}
use Rattle.pz_syntax.specs.declared.tokens.Keyword.TheVariants as k
use Rattle.pz_syntax.specs.declared.tokens.Symbol.TheVariants as s
use Rattle.pz_syntax.specs.declared.tokens.TokenKind.{TokenKind}
use Rattle.pz_syntax.specs.declared.tokens.TokenKind.TheVariants as kind
use Rattle.pz_lexer.specs.declared.kept.Piece.{Piece}

-- behind `(`, `[`, `{`, `.`, `?` and `!`
abbrev pub holds_next : TokenKind → Bool
holds_next (kind.Sym s.LeftParen) = true
holds_next (kind.Sym s.LeftBracket) = true
holds_next (kind.Sym s.LeftBrace) = true
holds_next (kind.Sym s.Dot) = true
holds_next (kind.Sym s.Query) = true
holds_next (kind.Sym s.Bang) = true
holds_next _ = false

-- before `)`, `]`, `}`, `,`, `;`, `.` and `?`
abbrev pub holds_on : TokenKind → Bool
holds_on (kind.Sym s.RightParen) = true
holds_on (kind.Sym s.RightBracket) = true
holds_on (kind.Sym s.RightBrace) = true
holds_on (kind.Sym s.Comma) = true
holds_on (kind.Sym s.Semicolon) = true
holds_on (kind.Sym s.Dot) = true
holds_on (kind.Sym s.Query) = true
holds_on _ = false

-- between what is called, or a first group of arguments, and `(`
abbrev pub is_called : TokenKind → Bool
is_called (kind.Ident name) = true
is_called (kind.Key k.Init) = true
is_called (kind.Key k.New) = true
is_called (kind.Sym s.RightParen) = true
is_called _ = false

-- between a port and `!`
abbrev pub is_name : TokenKind → Bool
is_name (kind.Ident name) = true
is_name _ = false

abbrev pub takes : TokenKind → TokenKind → Bool
takes p (kind.Sym s.LeftParen) = is_called p
takes p (kind.Sym s.Bang) = is_name p
takes p _ = false

abbrev pub joins : TokenKind → TokenKind → Bool
joins p x = holds_next p || holds_on x || takes p x

-- comments stand in lines of their own, so this is asked of tokens alone
abbrev pub are_joined : Piece → Piece → Bool
are_joined (Piece.Token p) (Piece.Token x) = joins p.mark.kind x.mark.kind
are_joined _ _ = false
