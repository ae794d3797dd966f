-- What comes next in a list of tokens.
use Rattle.std.specs.Prelude.{Bool, true, false, List, [], ◌∷◌}
use denote.Enum.Bare.{sameb}
use Rattle.pz_syntax.specs.declared.tokens.Symbol.{Symbol}
use Rattle.pz_syntax.specs.declared.tokens.Symbol.TheVariants as s
use Rattle.pz_syntax.specs.declared.tokens.Keyword.{Keyword}
use Rattle.pz_syntax.specs.declared.tokens.Keyword.TheVariants as k
use Rattle.pz_syntax.specs.declared.tokens.TokenKind.{TokenKind}
use Rattle.pz_syntax.specs.declared.tokens.TokenKind.TheVariants as kind
use Rattle.pz_syntax.specs.declared.tokens.Token.{Token}
use Rattle.pz_parser_cursor.specs.declared.ahead.Next.{Next}
use Rattle.pz_parser_cursor.specs.declared.ahead.Next.TheVariants as n
use Rattle.pz_parser_cursor.specs.contracts.ahead.Next.{the_type}

abbrev pub next_key : Keyword → Next
next_key k.Data = n.Data
next_key k.Process = n.Process
next_key k.Cluster = n.Cluster
next_key k.Class = n.Class
next_key k.System = n.System
next_key k.Extends = n.Extends
next_key k.Ports = n.Ports
next_key k.Messages = n.Messages
next_key k.Variables = n.Variables
next_key k.Init = n.Init
next_key k.Methods = n.Methods
next_key k.Instances = n.Instances
next_key k.Channels = n.Channels
next_key k.Skip = n.Skip
next_key k.Delay = n.Delay
next_key k.Par = n.Par
next_key k.And = n.And
next_key k.Rap = n.Rap
next_key k.Sel = n.Sel
next_key k.Or = n.Or
next_key k.Les = n.Les
next_key k.If = n.If
next_key k.Then = n.Then
next_key k.Else = n.Else
next_key k.Fi = n.Fi
next_key k.While = n.While
next_key k.Do = n.Do
next_key k.Od = n.Od
next_key k.Abort = n.Abort
next_key k.Interrupt = n.Interrupt
next_key k.With = n.With
next_key k.New = n.New
next_key k.Me = n.Me
next_key k.Nil = n.Literal
next_key k.True = n.Literal
next_key k.False = n.Literal
next_key k.Return = n.Return
next_key k.CurrentTime = n.CurrentTime
next_key k.Super = n.Other
next_key k.Native = n.Other
next_key k.Import = n.Other
next_key k.ImportLib = n.Other

abbrev pub next_symbol : Symbol → Next
next_symbol s.LeftParen = n.LeftParen
next_symbol s.RightParen = n.RightParen
next_symbol s.LeftBrace = n.LeftBrace
next_symbol s.RightBrace = n.RightBrace
next_symbol s.LeftBracket = n.LeftBracket
next_symbol s.RightBracket = n.RightBracket
next_symbol s.Comma = n.Comma
next_symbol s.Semicolon = n.Semicolon
next_symbol s.Colon = n.Colon
next_symbol s.Assign = n.Assign
next_symbol s.Bang = n.Bang
next_symbol s.Query = n.Query
next_symbol s.Bar = n.Bar
next_symbol s.Dot = n.Dot
next_symbol s.Plus = n.Plus
next_symbol s.Minus = n.Minus
next_symbol s.Star = n.Star
next_symbol s.Slash = n.Slash
next_symbol s.Equal = n.Equal
next_symbol s.Same = n.Same
next_symbol s.Unequal = n.Unequal
next_symbol s.Distinct = n.Distinct
next_symbol s.Less = n.Less
next_symbol s.LessEqual = n.LessEqual
next_symbol s.Greater = n.Greater
next_symbol s.GreaterEqual = n.GreaterEqual
next_symbol s.Ampersand = n.Ampersand

abbrev pub next_head_key : Keyword → Next
next_head_key k.Init = n.InitHead
next_head_key _ = n.Other

abbrev pub next_head : TokenKind → Next
next_head (kind.Ident x) = n.Head
next_head (kind.Key x) = next_head_key x
next_head _ = n.Other

abbrev pub next_by : Bool → TokenKind → Next
next_by true x = next_head x
next_by false (kind.Ident x) = n.Word
next_by false (kind.Key x) = next_key x
next_by false (kind.Int x) = n.Int
next_by false kind.Float = n.Literal
next_by false (kind.Char x) = n.Literal
next_by false (kind.Str x) = n.Literal
next_by false (kind.Sym x) = next_symbol x

unfoldable pub next : List Token → Next
next [] = n.Other
next (t ∷ ts) = next_by t.mark.head t.mark.kind

unfoldable pub same : Next → Next → Bool
same = sameb the_type
