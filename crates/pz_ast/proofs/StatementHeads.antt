-- The text of a statement of the grammar has its heads.
use Rattle.std.proofs.Common.{◌≡◌, List, [], ◌∷◌, ◌++◌, Option, Some, None, refl}
use Rattle.pz_syntax.specs.declared.tokens.Symbol.TheVariants as s
use Rattle.pz_syntax.specs.declared.tokens.Keyword.{Keyword}
use Rattle.pz_syntax.specs.declared.tokens.Keyword.TheVariants as k
use Rattle.pz_syntax.specs.declared.tokens.TokenKind.TheVariants as kind
use Rattle.pz_syntax.specs.declared.tokens.Mark.{Mark}
use Rattle.pz_syntax.specs.declared.names.Id.{Id}
use Rattle.pz_syntax.specs.Marks.{symbol, keyword, word, head, word_text, names_text}
use Rattle.pz_syntax.specs.Heads.{other, role}
use Rattle.pz_syntax.specs.Expressions.{Expression, Expressions, Part, left_out, written}
use Rattle.pz_syntax.specs.ExpressionForm.{AreExpressions}
use Rattle.pz_syntax.specs.Statements.{Statement, skip, delay, bracketed, block, guarded, parallel, select, conditional, repeated, abort, interrupt, send, receive, call, assignment, value, Statements, no_statements, then, StatementPart, not_written, otherwise, Branches, no_branches, branch}
use Rattle.pz_syntax.specs.StatementText.{block_text, after_text, condition_text, reception_text, text, texts, tail_texts, otherwise_text, branches_text, tail_branches}
use Rattle.pz_syntax.specs.StatementForm.{IsAfter, IsReception, IsStatement, AreStatements, FollowStatements, IsOtherwise, AreBranches, FollowBranches}
use Rattle.pz_ast.proofs.Marked as pieces
use Rattle.pz_ast.proofs.Marked.{Marked, Quiet, Starts, no_marks, no_start, starts_quiet, plain, named, headed, start, joined, joined_quiet, joined_start, closed_marked, bracketed_quiet, bracketed_makes, bracketed_then, separated_marked}
use Rattle.pz_ast.proofs.ExpressionHeads.{bare_word, list_marked, arguments_marked, arguments_quiet}
use Rattle.pz_ast.proofs.ExpressionHeads as expression

-- before this keyword
key_start : {ms : List Mark} (x : Keyword) → role (kind.Key x) ≡ other → Starts (keyword x ∷ ms)
key_start x e = start (keyword x) other e (λ rest. refl)

pub names_marked : (xs : List Id) → Marked (names_text xs)
names_marked xs = separated_marked word_text s.Comma refl bare_word xs

block_marked : (es : Expressions Id Id) → AreExpressions es → Marked (block_text es)
block_marked es h = plain (symbol s.LeftBrace) refl refl (joined (list_marked s.Semicolon refl es h) (plain (symbol s.RightBrace) refl refl no_marks) (start (symbol s.RightBrace) other refl (λ rest. refl)))

after_marked : (after : Part Id Id) → IsAfter after → Marked (after_text after)
after_marked left_out h = no_marks
after_marked (written es) h = block_marked es h

after_start : (after : Part Id Id) → Starts (after_text after)
after_start left_out = no_start
after_start (written es) = start (symbol s.LeftBrace) other refl (λ rest. refl)

variables_marked : (into : List Id) (condition : Option (Expression Id Id)) → IsReception (Some into) condition → Marked (names_text into ++ condition_text condition)
variables_marked into None h = joined (names_marked into) no_marks no_start
variables_marked into (Some e) h = joined (names_marked into) (plain (symbol s.Bar) refl refl (expression.marked e h.0)) (start (symbol s.Bar) other refl (λ rest. refl))

reception_marked : (into : Option (List Id)) (condition : Option (Expression Id Id)) → IsReception into condition → Marked (reception_text into condition)
reception_marked None condition h = no_marks
reception_marked (Some into) condition h = closed_marked (pieces.bracketed (variables_marked into condition h))

reception_quiet : (into : Option (List Id)) (condition : Option (Expression Id Id)) → IsReception into condition → Quiet (reception_text into condition)
reception_quiet None condition h = starts_quiet no_start
reception_quiet (Some into) condition h = bracketed_quiet (variables_marked into condition h)

tail_start : (ts : Statements Id Id Id) → Starts (tail_texts ts)
tail_start no_statements = no_start
tail_start (then t ts) = start (symbol s.Semicolon) other refl (λ rest. refl)

tail_branches_start : (separator : Keyword) → role (kind.Key separator) ≡ other → (bs : Branches Id Id Id) → Starts (tail_branches separator bs)
tail_branches_start separator e no_branches = no_start
tail_branches_start separator e (branch b bs) = key_start separator e

otherwise_start : (part : StatementPart Id Id Id) → Starts (otherwise_text part)
otherwise_start not_written = no_start
otherwise_start (otherwise ts) = key_start k.Else refl

mutual
  marked : (t : Statement Id Id Id) → IsStatement t → Marked (text t)
  marked (skip pos) h = plain (keyword k.Skip) refl refl no_marks
  marked (delay pos e) h = plain (keyword k.Delay) refl refl (expression.marked e h.0)
  marked (bracketed pos ts) h = closed_marked (pieces.bracketed (statements_marked ts h))
  marked (block pos es) h = block_marked es h
  marked (guarded pos e t) h = plain (symbol s.LeftBracket) refl refl (joined (expression.marked e h.0.0) (plain (symbol s.RightBracket) refl refl (marked t h.1)) (start (symbol s.RightBracket) other refl (λ rest. refl)))
  marked (parallel pos bs) h = plain (keyword k.Par) refl refl (joined (branches_marked k.And refl bs h) (plain (keyword k.Rap) refl refl no_marks) (key_start k.Rap refl))
  marked (select pos bs) h = plain (keyword k.Sel) refl refl (joined (branches_marked k.Or refl bs h) (plain (keyword k.Les) refl refl no_marks) (key_start k.Les refl))
  marked (conditional pos e body part) h =
      plain (keyword k.If) refl refl (joined (expression.marked e h.0.0)
      (plain (keyword k.Then) refl refl (joined (statements_marked body h.1)
      (joined (otherwise_marked part h.2) (plain (keyword k.Fi) refl refl no_marks) (key_start k.Fi refl))
      (joined_start (otherwise_start part) (key_start k.Fi refl))))
      (key_start k.Then refl))
  marked (repeated pos e body) h =
      plain (keyword k.While) refl refl (joined (expression.marked e h.0.0)
      (plain (keyword k.Do) refl refl (joined (statements_marked body h.1) (plain (keyword k.Od) refl refl no_marks) (key_start k.Od refl)))
      (key_start k.Do refl))
  marked (abort pos ts t) h = plain (keyword k.Abort) refl refl (joined (statements_marked ts h.0) (plain (keyword k.With) refl refl (marked t h.1)) (key_start k.With refl))
  marked (interrupt pos ts t) h = plain (keyword k.Interrupt) refl refl (joined (statements_marked ts h.0) (plain (keyword k.With) refl refl (marked t h.1)) (key_start k.With refl))
  marked (send pos port message args after) h =
      named (word port) refl refl (starts_quiet (start (symbol s.Bang) other refl (λ rest. refl))) (plain (symbol s.Bang) refl refl
      (named (word message) refl refl (joined_quiet (arguments_quiet args h.0) (after_start after)) (joined (arguments_marked args h.0) (after_marked after h.1) (after_start after))))
  marked (receive pos port message into condition after) h =
      named (word port) refl refl (starts_quiet (start (symbol s.Query) other refl (λ rest. refl))) (plain (symbol s.Query) refl refl
      (named (word message) refl refl (joined_quiet (reception_quiet into condition h.0) (after_start after)) (joined (reception_marked into condition h.0) (after_marked after h.1) (after_start after))))
  marked (call pos method args results) h =
      headed (head method) refl refl (bracketed_makes (symbol s.LeftParen) (names_text results ++ symbol s.RightParen ∷ []) (list_marked s.Comma refl args h) (λ more. refl))
      (bracketed_then (list_marked s.Comma refl args h) (bracketed_then (names_marked results) no_marks))
  marked (assignment pos x e) h = named (word x) refl refl (starts_quiet (start (symbol s.Assign) other refl (λ rest. refl))) (plain (symbol s.Assign) refl refl (expression.marked e h.0))
  marked (value pos e) h = expression.marked e h.0.0

  pub statements_marked : (ts : Statements Id Id Id) → AreStatements ts → Marked (texts ts)
  statements_marked no_statements h = absurd h
  statements_marked (then t ts) h = joined (marked t h.0) (tail_marked ts h.1) (tail_start ts)

  tail_marked : (ts : Statements Id Id Id) → FollowStatements ts → Marked (tail_texts ts)
  tail_marked no_statements h = no_marks
  tail_marked (then t ts) h = plain (symbol s.Semicolon) refl refl (joined (marked t h.0) (tail_marked ts h.1) (tail_start ts))

  otherwise_marked : (part : StatementPart Id Id Id) → IsOtherwise part → Marked (otherwise_text part)
  otherwise_marked not_written h = no_marks
  otherwise_marked (otherwise ts) h = plain (keyword k.Else) refl refl (statements_marked ts h)

  branches_marked : (separator : Keyword) → role (kind.Key separator) ≡ other → (bs : Branches Id Id Id) → AreBranches bs → Marked (branches_text separator bs)
  branches_marked separator e no_branches h = absurd h
  branches_marked separator e (branch b bs) h = joined (statements_marked b h.0) (tail_branches_marked separator e bs h.1) (tail_branches_start separator e bs)

  tail_branches_marked : (separator : Keyword) → role (kind.Key separator) ≡ other → (bs : Branches Id Id Id) → FollowBranches bs → Marked (tail_branches separator bs)
  tail_branches_marked separator e no_branches h = no_marks
  tail_branches_marked separator e (branch b bs) h = plain (keyword separator) e refl (joined (statements_marked b h.0) (tail_branches_marked separator e bs h.1) (tail_branches_start separator e bs))
