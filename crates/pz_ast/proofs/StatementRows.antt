-- Texts of statements, written by hand from the grammar.
use Rattle.std.proofs.Common.{◌≡◌, refl, [], ◌∷◌, pos, Some, None}
use Rattle.pz_syntax.specs.declared.tokens.Symbol.TheVariants as s
use Rattle.pz_syntax.specs.declared.tokens.Keyword.TheVariants as k
use Rattle.pz_syntax.specs.declared.names.Id.{Id}
use Rattle.pz_syntax.specs.Marks.{symbol, keyword, word, head}
use Rattle.pz_syntax.specs.ExpressionErasure.{origin}
use Rattle.pz_syntax.specs.Expressions.{none, left_out, written}
use Rattle.pz_syntax.specs.Statements.{Statement, skip, delay, bracketed, block, guarded, parallel, select, conditional, repeated, abort, interrupt, send, receive, call, assignment, value, Statements, no_statements, then, not_written, otherwise, no_branches, branch}
use Rattle.pz_syntax.specs.StatementText.{text}
use Rattle.pz_ast.proofs.RowWords.{a, m, p, x, y, number, var, int, one, two}

abbrev skips : Statement Id Id Id
skips = skip origin

-- skip
abbrev single : Statements Id Id Id
single = then skips no_statements

-- skip; delay 3
abbrev pair : Statements Id Id Id
pair = then skips (then (delay origin (int (pos 3))) no_statements)

skipped : text skips ≡ keyword k.Skip ∷ []
skipped = refl

-- delay 3
delayed : text (delay origin (int (pos 3))) ≡ keyword k.Delay ∷ number (pos 3) ∷ []
delayed = refl

-- (skip; delay 3)
grouped : text (bracketed origin pair) ≡ symbol s.LeftParen ∷ keyword k.Skip ∷ symbol s.Semicolon ∷ keyword k.Delay ∷ number (pos 3) ∷ symbol s.RightParen ∷ []
grouped = refl

-- {}
empty_block : text (block origin none) ≡ symbol s.LeftBrace ∷ symbol s.RightBrace ∷ []
empty_block = refl

-- {x; y}
blocked : text (block origin (two (var x) (var y))) ≡ symbol s.LeftBrace ∷ word x ∷ symbol s.Semicolon ∷ word y ∷ symbol s.RightBrace ∷ []
blocked = refl

-- [x] skip
guard : text (guarded origin (var x) skips) ≡ symbol s.LeftBracket ∷ word x ∷ symbol s.RightBracket ∷ keyword k.Skip ∷ []
guard = refl

-- par skip and skip; delay 3 rap
par_rap : text (parallel origin (branch single (branch pair no_branches))) ≡ keyword k.Par ∷ keyword k.Skip ∷ keyword k.And ∷ keyword k.Skip ∷ symbol s.Semicolon ∷ keyword k.Delay ∷ number (pos 3) ∷ keyword k.Rap ∷ []
par_rap = refl

-- sel skip or skip les
sel_les : text (select origin (branch single (branch single no_branches))) ≡ keyword k.Sel ∷ keyword k.Skip ∷ keyword k.Or ∷ keyword k.Skip ∷ keyword k.Les ∷ []
sel_les = refl

-- if x then skip fi
if_then : text (conditional origin (var x) single not_written) ≡ keyword k.If ∷ word x ∷ keyword k.Then ∷ keyword k.Skip ∷ keyword k.Fi ∷ []
if_then = refl

-- if x then skip; delay 3 else skip fi
if_else : text (conditional origin (var x) pair (otherwise single)) ≡ keyword k.If ∷ word x ∷ keyword k.Then ∷ keyword k.Skip ∷ symbol s.Semicolon ∷ keyword k.Delay ∷ number (pos 3) ∷ keyword k.Else ∷ keyword k.Skip ∷ keyword k.Fi ∷ []
if_else = refl

-- while x do skip od
while_do : text (repeated origin (var x) single) ≡ keyword k.While ∷ word x ∷ keyword k.Do ∷ keyword k.Skip ∷ keyword k.Od ∷ []
while_do = refl

-- abort skip with skip
aborted : text (abort origin single skips) ≡ keyword k.Abort ∷ keyword k.Skip ∷ keyword k.With ∷ keyword k.Skip ∷ []
aborted = refl

-- interrupt skip; delay 3 with skip
interrupted : text (interrupt origin pair skips) ≡ keyword k.Interrupt ∷ keyword k.Skip ∷ symbol s.Semicolon ∷ keyword k.Delay ∷ number (pos 3) ∷ keyword k.With ∷ keyword k.Skip ∷ []
interrupted = refl

-- p!m
sent : text (send origin p m left_out left_out) ≡ word p ∷ symbol s.Bang ∷ word m ∷ []
sent = refl

-- p!m(x, 1){y}
sent_values : text (send origin p m (written (two (var x) (int (pos 1)))) (written (one (var y)))) ≡ word p ∷ symbol s.Bang ∷ word m ∷ symbol s.LeftParen ∷ word x ∷ symbol s.Comma ∷ number (pos 1) ∷ symbol s.RightParen ∷ symbol s.LeftBrace ∷ word y ∷ symbol s.RightBrace ∷ []
sent_values = refl

-- p!m(){}
sent_empty : text (send origin p m (written none) (written none)) ≡ word p ∷ symbol s.Bang ∷ word m ∷ symbol s.LeftParen ∷ symbol s.RightParen ∷ symbol s.LeftBrace ∷ symbol s.RightBrace ∷ []
sent_empty = refl

-- p?m
received : text (receive origin p m None None left_out) ≡ word p ∷ symbol s.Query ∷ word m ∷ []
received = refl

-- p?m()
received_empty : text (receive origin p m (Some []) None left_out) ≡ word p ∷ symbol s.Query ∷ word m ∷ symbol s.LeftParen ∷ symbol s.RightParen ∷ []
received_empty = refl

-- p?m(| x)
received_if : text (receive origin p m (Some []) (Some (var x)) left_out) ≡ word p ∷ symbol s.Query ∷ word m ∷ symbol s.LeftParen ∷ symbol s.Bar ∷ word x ∷ symbol s.RightParen ∷ []
received_if = refl

-- p?m(x, y | x){y}
received_values : text (receive origin p m (Some (x ∷ y ∷ [])) (Some (var x)) (written (one (var y)))) ≡ word p ∷ symbol s.Query ∷ word m ∷ symbol s.LeftParen ∷ word x ∷ symbol s.Comma ∷ word y ∷ symbol s.Bar ∷ word x ∷ symbol s.RightParen ∷ symbol s.LeftBrace ∷ word y ∷ symbol s.RightBrace ∷ []
received_values = refl

-- a()()
called : text (call origin a none []) ≡ head a ∷ symbol s.LeftParen ∷ symbol s.RightParen ∷ symbol s.LeftParen ∷ symbol s.RightParen ∷ []
called = refl

-- a(1, x)(x, y)
called_values : text (call origin a (two (int (pos 1)) (var x)) (x ∷ y ∷ [])) ≡ head a ∷ symbol s.LeftParen ∷ number (pos 1) ∷ symbol s.Comma ∷ word x ∷ symbol s.RightParen ∷ symbol s.LeftParen ∷ word x ∷ symbol s.Comma ∷ word y ∷ symbol s.RightParen ∷ []
called_values = refl

-- x := 1
assigned : text (assignment origin x (int (pos 1))) ≡ word x ∷ symbol s.Assign ∷ number (pos 1) ∷ []
assigned = refl

-- x
valued : text (value origin (var x)) ≡ word x ∷ []
valued = refl
