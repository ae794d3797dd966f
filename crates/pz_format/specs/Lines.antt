-- Where a line begins.
use Rattle.std.specs.Prelude.{Bool, true, false, ◌||◌, ◌&&◌}
use Rattle.pz_syntax.specs.declared.tokens.Keyword.{Keyword}
use Rattle.pz_syntax.specs.declared.tokens.Keyword.TheVariants as k
use Rattle.pz_syntax.specs.declared.tokens.Symbol.TheVariants as s
use Rattle.pz_syntax.specs.declared.tokens.TokenKind.{TokenKind}
use Rattle.pz_syntax.specs.declared.tokens.TokenKind.TheVariants as kind
use Rattle.pz_syntax.specs.declared.tokens.Token.{Token}
use Rattle.pz_lexer.specs.declared.kept.Piece.{Piece}

-- a word that begins a declaration, a part of one, or a part or the end of a statement
abbrev pub leads : Keyword → Bool
leads k.Data = true
leads k.Process = true
leads k.Cluster = true
leads k.System = true
leads k.Ports = true
leads k.Messages = true
leads k.Variables = true
leads k.Methods = true
leads k.Instances = true
leads k.Channels = true
leads k.And = true
leads k.Rap = true
leads k.Or = true
leads k.Les = true
leads k.Else = true
leads k.Fi = true
leads k.Od = true
leads k.With = true
leads _ = false

abbrev pub leads_line : TokenKind → Bool
leads_line (kind.Key keyword) = leads keyword
leads_line _ = false

-- a literal, or the last word of a statement or of an expression
abbrev pub ends : Keyword → Bool
ends k.True = true
ends k.False = true
ends k.Nil = true
ends k.Skip = true
ends k.Rap = true
ends k.Les = true
ends k.Fi = true
ends k.Od = true
ends k.Me = true
ends k.CurrentTime = true
ends _ = false

-- what a method, an instance or a group of variables can end with: a name, a literal, a closed bracket,
-- or such a word
abbrev pub can_end : TokenKind → Bool
can_end (kind.Ident name) = true
can_end (kind.Int value) = true
can_end kind.Float = true
can_end (kind.Char value) = true
can_end (kind.Str values) = true
can_end (kind.Key keyword) = ends keyword
can_end (kind.Sym s.RightParen) = true
can_end (kind.Sym s.RightBrace) = true
can_end _ = false

abbrev pub is_semicolon : TokenKind → Bool
is_semicolon (kind.Sym s.Semicolon) = true
is_semicolon _ = false

-- whether a line begins at the token x behind the token p
abbrev pub parts : Token → Token → Bool
parts p x = is_semicolon p.mark.kind || leads_line x.mark.kind || (x.mark.head && can_end p.mark.kind)

-- whether a line begins at x behind p: comments stand in lines of their own
abbrev pub begins_line : Piece → Piece → Bool
begins_line (Piece.Token p) (Piece.Token x) = parts p x
begins_line (Piece.Token p) _ = true
begins_line (Piece.Line text) x = true
begins_line (Piece.Block text) x = true
