-- The first token of a list, and what it says.
use Rattle.std.specs.Prelude.{ℕ, ℤ, pos, Bool, true, false, not, List, [], ◌∷◌, map, bytes_eq, codes}
use Rattle.pz_syntax.specs.declared.tokens.Keyword.{Keyword}
use Rattle.pz_syntax.specs.declared.tokens.Keyword.TheVariants as k
use Rattle.pz_syntax.specs.declared.tokens.TokenKind.{TokenKind}
use Rattle.pz_syntax.specs.declared.tokens.TokenKind.TheVariants as kind
use Rattle.pz_syntax.specs.declared.tokens.Mark.{Mark}
use Rattle.pz_syntax.specs.declared.tokens.Pos.{Pos}
use Rattle.pz_syntax.specs.declared.tokens.Token.{Token}
use Rattle.pz_syntax.specs.declared.names.Id.{Id}
use Rattle.pz_syntax.specs.declared.exprs.Literal.{Literal}
use Rattle.pz_syntax.specs.declared.exprs.Literal.TheVariants as lit
use Rattle.pz_syntax.specs.ExpressionErasure.{origin}
use Rattle.pz_parser_cursor.specs.declared.ahead.Next.{Next}
use Rattle.pz_parser_cursor.specs.declared.ahead.Next.TheVariants as n
use Rattle.pz_parser_cursor.specs.devices.LookAhead.{next, same}

abbrev pub Tokens : Type 0
Tokens = List Token

abbrev pub marks : Tokens → List Mark
marks = map (λ t. t.mark)

unfoldable pub after : Tokens → Tokens
after [] = []
after (t ∷ ts) = ts

-- the place of the next token; at the end any
unfoldable pub position : Tokens → Pos
position [] = origin
position (t ∷ ts) = t.pos

-- how the name is spelled; a keyword that stands as a name is `init`
abbrev pub name_by : TokenKind → List ℕ
name_by (kind.Ident x) = x
name_by _ = codes "init"

unfoldable pub name : Tokens → List ℕ
name [] = codes "init"
name (t ∷ ts) = name_by t.mark.kind

unfoldable pub identifier : Tokens → Id
identifier i = record { name = name i; pos = position i }

abbrev pub number_by : TokenKind → ℤ
number_by (kind.Int x) = x
number_by _ = pos 0

unfoldable pub number : Tokens → ℤ
number [] = pos 0
number (t ∷ ts) = number_by t.mark.kind

abbrev pub literal_key : Keyword → Literal
literal_key k.True = lit.True
literal_key k.False = lit.False
literal_key _ = lit.Nil

abbrev pub literal_by : TokenKind → Literal
literal_by (kind.Int x) = lit.Int x
literal_by kind.Float = lit.Float
literal_by (kind.Char x) = lit.Char x
literal_by (kind.Str x) = lit.Str x
literal_by (kind.Key x) = literal_key x
literal_by _ = lit.Nil

unfoldable pub literal : Tokens → Literal
literal [] = lit.Nil
literal (t ∷ ts) = literal_by t.mark.kind

-- this stands next
unfoldable pub sees : Next → Tokens → Bool
sees x i = same (next i) x

unfoldable pub spelled_init : Tokens → Bool
spelled_init i = bytes_eq (name i) (codes "init")

abbrev pub selects_by : Next → Bool → Bool
selects_by n.Init spelled = true
selects_by n.Word spelled = not spelled
selects_by _ spelled = false

-- a selector that is no head stands next; an identifier that is spelled `init` is none
unfoldable pub selects : Tokens → Bool
selects i = selects_by (next i) (spelled_init i)

abbrev pub selects_head_by : Next → Bool → Bool
selects_head_by n.InitHead spelled = true
selects_head_by n.Head spelled = not spelled
selects_head_by _ spelled = false

-- a selector that is a head stands next
unfoldable pub selects_head : Tokens → Bool
selects_head i = selects_head_by (next i) (spelled_init i)
