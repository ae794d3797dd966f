-- The one token that shows so, where there is one.
use Rattle.std.proofs.Common.{◌≡◌, Bool, true, false, Option, Some, None, refl, sym, ◌∙◌}
use Rattle.pz_syntax.specs.declared.tokens.Symbol.{Symbol}
use Rattle.pz_syntax.specs.declared.tokens.Symbol.TheVariants as s
use Rattle.pz_syntax.specs.declared.tokens.Keyword.{Keyword}
use Rattle.pz_syntax.specs.declared.tokens.Keyword.TheVariants as k
use Rattle.pz_syntax.specs.declared.tokens.TokenKind.{TokenKind}
use Rattle.pz_syntax.specs.declared.tokens.TokenKind.TheVariants as kind
use Rattle.pz_parser_cursor.specs.declared.ahead.Next.{Next}
use Rattle.pz_parser_cursor.specs.declared.ahead.Next.TheVariants as n
use Rattle.pz_parser_cursor.specs.devices.LookAhead.{next_by, next_head, next_key, next_symbol}

abbrev pub token_of : Next → Option TokenKind
token_of n.Other = None
token_of n.Word = None
token_of n.Head = None
token_of n.InitHead = None
token_of n.Int = None
token_of n.Literal = None
token_of n.Data = Some (kind.Key k.Data)
token_of n.Process = Some (kind.Key k.Process)
token_of n.Cluster = Some (kind.Key k.Cluster)
token_of n.Class = Some (kind.Key k.Class)
token_of n.System = Some (kind.Key k.System)
token_of n.Extends = Some (kind.Key k.Extends)
token_of n.Ports = Some (kind.Key k.Ports)
token_of n.Messages = Some (kind.Key k.Messages)
token_of n.Variables = Some (kind.Key k.Variables)
token_of n.Init = Some (kind.Key k.Init)
token_of n.Methods = Some (kind.Key k.Methods)
token_of n.Instances = Some (kind.Key k.Instances)
token_of n.Channels = Some (kind.Key k.Channels)
token_of n.Skip = Some (kind.Key k.Skip)
token_of n.Delay = Some (kind.Key k.Delay)
token_of n.Par = Some (kind.Key k.Par)
token_of n.And = Some (kind.Key k.And)
token_of n.Rap = Some (kind.Key k.Rap)
token_of n.Sel = Some (kind.Key k.Sel)
token_of n.Or = Some (kind.Key k.Or)
token_of n.Les = Some (kind.Key k.Les)
token_of n.If = Some (kind.Key k.If)
token_of n.Then = Some (kind.Key k.Then)
token_of n.Else = Some (kind.Key k.Else)
token_of n.Fi = Some (kind.Key k.Fi)
token_of n.While = Some (kind.Key k.While)
token_of n.Do = Some (kind.Key k.Do)
token_of n.Od = Some (kind.Key k.Od)
token_of n.Abort = Some (kind.Key k.Abort)
token_of n.Interrupt = Some (kind.Key k.Interrupt)
token_of n.With = Some (kind.Key k.With)
token_of n.New = Some (kind.Key k.New)
token_of n.Me = Some (kind.Key k.Me)
token_of n.Return = Some (kind.Key k.Return)
token_of n.CurrentTime = Some (kind.Key k.CurrentTime)
token_of n.LeftParen = Some (kind.Sym s.LeftParen)
token_of n.RightParen = Some (kind.Sym s.RightParen)
token_of n.LeftBrace = Some (kind.Sym s.LeftBrace)
token_of n.RightBrace = Some (kind.Sym s.RightBrace)
token_of n.LeftBracket = Some (kind.Sym s.LeftBracket)
token_of n.RightBracket = Some (kind.Sym s.RightBracket)
token_of n.Comma = Some (kind.Sym s.Comma)
token_of n.Semicolon = Some (kind.Sym s.Semicolon)
token_of n.Colon = Some (kind.Sym s.Colon)
token_of n.Assign = Some (kind.Sym s.Assign)
token_of n.Bang = Some (kind.Sym s.Bang)
token_of n.Query = Some (kind.Sym s.Query)
token_of n.Bar = Some (kind.Sym s.Bar)
token_of n.Dot = Some (kind.Sym s.Dot)
token_of n.Plus = Some (kind.Sym s.Plus)
token_of n.Minus = Some (kind.Sym s.Minus)
token_of n.Star = Some (kind.Sym s.Star)
token_of n.Slash = Some (kind.Sym s.Slash)
token_of n.Equal = Some (kind.Sym s.Equal)
token_of n.Same = Some (kind.Sym s.Same)
token_of n.Unequal = Some (kind.Sym s.Unequal)
token_of n.Distinct = Some (kind.Sym s.Distinct)
token_of n.Less = Some (kind.Sym s.Less)
token_of n.LessEqual = Some (kind.Sym s.LessEqual)
token_of n.Greater = Some (kind.Sym s.Greater)
token_of n.GreaterEqual = Some (kind.Sym s.GreaterEqual)
token_of n.Ampersand = Some (kind.Sym s.Ampersand)

-- what a keyword shows as, and back
abbrev Back : TokenKind → Option TokenKind → Type 0
Back x (Some y) = y ≡ x
Back x None = Unit {0}

abbrev some : TokenKind → Option TokenKind
some x = Some x

back : (x y : TokenKind) (o : Option TokenKind) → Back x o → o ≡ some y → x ≡ y
back x y (Some z) b e = let p : z ≡ y = cc in sym b ∙ p
back x y None b e = absurd cc

of_key : (x : Keyword) → Back (kind.Key x) (token_of (next_key x))
of_key k.Data = refl
of_key k.Process = refl
of_key k.Cluster = refl
of_key k.Class = refl
of_key k.System = refl
of_key k.Extends = refl
of_key k.Ports = refl
of_key k.Messages = refl
of_key k.Variables = refl
of_key k.Init = refl
of_key k.Methods = refl
of_key k.Instances = refl
of_key k.Channels = refl
of_key k.Skip = refl
of_key k.Delay = refl
of_key k.Par = refl
of_key k.And = refl
of_key k.Rap = refl
of_key k.Sel = refl
of_key k.Or = refl
of_key k.Les = refl
of_key k.If = refl
of_key k.Then = refl
of_key k.Else = refl
of_key k.Fi = refl
of_key k.While = refl
of_key k.Do = refl
of_key k.Od = refl
of_key k.Abort = refl
of_key k.Interrupt = refl
of_key k.With = refl
of_key k.New = refl
of_key k.Me = refl
of_key k.Nil = tt
of_key k.True = tt
of_key k.False = tt
of_key k.Return = refl
of_key k.CurrentTime = refl
of_key k.Super = tt
of_key k.Native = tt
of_key k.Import = tt
of_key k.ImportLib = tt

of_symbol : (x : Symbol) → Back (kind.Sym x) (token_of (next_symbol x))
of_symbol s.LeftParen = refl
of_symbol s.RightParen = refl
of_symbol s.LeftBrace = refl
of_symbol s.RightBrace = refl
of_symbol s.LeftBracket = refl
of_symbol s.RightBracket = refl
of_symbol s.Comma = refl
of_symbol s.Semicolon = refl
of_symbol s.Colon = refl
of_symbol s.Assign = refl
of_symbol s.Bang = refl
of_symbol s.Query = refl
of_symbol s.Bar = refl
of_symbol s.Dot = refl
of_symbol s.Plus = refl
of_symbol s.Minus = refl
of_symbol s.Star = refl
of_symbol s.Slash = refl
of_symbol s.Equal = refl
of_symbol s.Same = refl
of_symbol s.Unequal = refl
of_symbol s.Distinct = refl
of_symbol s.Less = refl
of_symbol s.LessEqual = refl
of_symbol s.Greater = refl
of_symbol s.GreaterEqual = refl
of_symbol s.Ampersand = refl

head_none : (x : TokenKind) → token_of (next_head x) ≡ None
head_none (kind.Ident x) = refl
head_none (kind.Key k.Init) = refl
head_none (kind.Key _) = refl
head_none _ = refl

pub takes_kind : (head : Bool) (x y : TokenKind) → token_of (next_by head x) ≡ Some y → (head ≡ false) × (x ≡ y)
takes_kind true x y e = let h = head_none x in absurd cc
takes_kind false (kind.Ident x) y e = absurd cc
takes_kind false (kind.Key x) y e = (refl, back (kind.Key x) y (token_of (next_key x)) (of_key x) e)
takes_kind false (kind.Int x) y e = absurd cc
takes_kind false kind.Float y e = absurd cc
takes_kind false (kind.Char x) y e = absurd cc
takes_kind false (kind.Str x) y e = absurd cc
takes_kind false (kind.Sym x) y e = (refl, back (kind.Sym x) y (token_of (next_symbol x)) (of_symbol x) e)
