-- Texts of expressions, written by hand from the grammar.
use Rattle.std.proofs.Common.{◌≡◌, refl, [], ◌∷◌, pos, codes}
use Rattle.pz_syntax.specs.declared.tokens.Symbol.TheVariants as s
use Rattle.pz_syntax.specs.declared.tokens.Keyword.TheVariants as k
use Rattle.pz_syntax.specs.declared.tokens.TokenKind.TheVariants as kind
use Rattle.pz_syntax.specs.declared.exprs.Literal.TheVariants as lit
use Rattle.pz_syntax.specs.Marks.{mark, symbol, keyword, word}
use Rattle.pz_syntax.specs.ExpressionErasure.{origin}
use Rattle.pz_syntax.specs.Expressions.{literal, me, clock, creation, group, chain, sends, unary, assign, returned, choice, loop, none, left_out, written, no_links, link, no_sendings, sending}
use Rattle.pz_syntax.specs.ExpressionText.{text}
use Rattle.pz_ast.proofs.RowWords.{a, b, m, x, y, P, init, number, var, int, one, two}

-- 3
integer : text (int (pos 3)) ≡ number (pos 3) ∷ []
integer = refl

-- a float, 'A' and "ab"
float : text (literal origin lit.Float) ≡ mark kind.Float ∷ []
float = refl

character : text (literal origin (lit.Char 65)) ≡ mark (kind.Char 65) ∷ []
character = refl

string : text (literal origin (lit.Str (codes "ab"))) ≡ mark (kind.Str (codes "ab")) ∷ []
string = refl

-- true false nil
truth : text (literal origin lit.True) ≡ keyword k.True ∷ []
truth = refl

falsehood : text (literal origin lit.False) ≡ keyword k.False ∷ []
falsehood = refl

nothing : text (literal origin lit.Nil) ≡ keyword k.Nil ∷ []
nothing = refl

-- x
name : text (var x) ≡ word x ∷ []
name = refl

-- self
self_word : text (me origin) ≡ keyword k.Me ∷ []
self_word = refl

-- currentTime
time : text (clock origin) ≡ keyword k.CurrentTime ∷ []
time = refl

-- new(P)
made : text (creation origin P) ≡ keyword k.New ∷ symbol s.LeftParen ∷ word P ∷ symbol s.RightParen ∷ []
made = refl

-- (x; y)
grouped : text (group origin (two (var x) (var y))) ≡ symbol s.LeftParen ∷ word x ∷ symbol s.Semicolon ∷ word y ∷ symbol s.RightParen ∷ []
grouped = refl

-- x - y + 1
sum : text (chain origin (var x) (link s.Minus origin (var y) (link s.Plus origin (int (pos 1)) no_links))) ≡ word x ∷ symbol s.Minus ∷ word y ∷ symbol s.Plus ∷ number (pos 1) ∷ []
sum = refl

-- x m a() init(1, y)
sent : text (sends origin (var x) (sending m left_out (sending a (written none) (sending init (written (two (int (pos 1)) (var y))) no_sendings)))) ≡ word x ∷ word m ∷ word a ∷ symbol s.LeftParen ∷ symbol s.RightParen ∷ keyword k.Init ∷ symbol s.LeftParen ∷ number (pos 1) ∷ symbol s.Comma ∷ word y ∷ symbol s.RightParen ∷ []
sent = refl

-- - ! x
signs : text (unary origin s.Minus (unary origin s.Bang (var x))) ≡ symbol s.Minus ∷ symbol s.Bang ∷ word x ∷ []
signs = refl

-- x := y
assigned : text (assign origin x (var y)) ≡ word x ∷ symbol s.Assign ∷ word y ∷ []
assigned = refl

-- return x
return_value : text (returned origin (var x)) ≡ keyword k.Return ∷ word x ∷ []
return_value = refl

-- if x then y fi
if_then : text (choice origin (var x) (one (var y)) left_out) ≡ keyword k.If ∷ word x ∷ keyword k.Then ∷ word y ∷ keyword k.Fi ∷ []
if_then = refl

-- if x then y; a else b fi
if_else : text (choice origin (var x) (two (var y) (var a)) (written (one (var b)))) ≡ keyword k.If ∷ word x ∷ keyword k.Then ∷ word y ∷ symbol s.Semicolon ∷ word a ∷ keyword k.Else ∷ word b ∷ keyword k.Fi ∷ []
if_else = refl

-- while x do y od
while_do : text (loop origin (var x) (one (var y))) ≡ keyword k.While ∷ word x ∷ keyword k.Do ∷ word y ∷ keyword k.Od ∷ []
while_do = refl
