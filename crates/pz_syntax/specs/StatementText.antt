-- The text of statements.
use Rattle.std.specs.Prelude.{List, [], ◌∷◌, ◌++◌, Option, Some, None}
use Rattle.pz_syntax.specs.declared.tokens.Symbol.TheVariants as s
use Rattle.pz_syntax.specs.declared.tokens.Keyword.{Keyword}
use Rattle.pz_syntax.specs.declared.tokens.Keyword.TheVariants as k
use Rattle.pz_syntax.specs.declared.tokens.Mark.{Mark}
use Rattle.pz_syntax.specs.declared.names.Id.{Id}
use Rattle.pz_syntax.specs.Marks.{symbol, keyword, word, head, in_parentheses, in_braces, names_text}
use Rattle.pz_syntax.specs.Expressions.{Expression, Expressions, Part, left_out, written}
use Rattle.pz_syntax.specs.ExpressionText.{arguments_text}
use Rattle.pz_syntax.specs.ExpressionText as expression
use Rattle.pz_syntax.specs.Statements.{Statement, skip, delay, bracketed, block, guarded, parallel, select, conditional, repeated, abort, interrupt, send, receive, call, assignment, value, Statements, no_statements, then, StatementPart, not_written, otherwise, Branches, no_branches, branch}

-- expressions in braces
abbrev pub block_text : Expressions Id Id → List Mark
block_text es = in_braces (expression.texts s.Semicolon es)

-- the block behind a message, or nothing
abbrev pub after_text : Part Id Id → List Mark
after_text left_out = []
after_text (written es) = block_text es

-- the condition of a reception, or nothing
abbrev pub condition_text : Option (Expression Id Id) → List Mark
condition_text None = []
condition_text (Some e) = symbol s.Bar ∷ expression.text e

-- the variables and the condition of a reception in brackets, or nothing
abbrev pub reception_text : Option (List Id) → Option (Expression Id Id) → List Mark
reception_text None condition = []
reception_text (Some into) condition = in_parentheses (names_text into ++ condition_text condition)

abbrev mutual
  pub text : Statement Id Id Id → List Mark
  text (skip pos) = keyword k.Skip ∷ []
  text (delay pos e) = keyword k.Delay ∷ expression.text e
  text (bracketed pos ts) = symbol s.LeftParen ∷ (texts ts ++ symbol s.RightParen ∷ [])
  text (block pos es) = block_text es
  text (guarded pos e t) = symbol s.LeftBracket ∷ (expression.text e ++ symbol s.RightBracket ∷ text t)
  text (parallel pos bs) = keyword k.Par ∷ (branches_text k.And bs ++ keyword k.Rap ∷ [])
  text (select pos bs) = keyword k.Sel ∷ (branches_text k.Or bs ++ keyword k.Les ∷ [])
  text (conditional pos e body other) = keyword k.If ∷ (expression.text e ++ keyword k.Then ∷ (texts body ++ (otherwise_text other ++ keyword k.Fi ∷ [])))
  text (repeated pos e body) = keyword k.While ∷ (expression.text e ++ keyword k.Do ∷ (texts body ++ keyword k.Od ∷ []))
  text (abort pos ts t) = keyword k.Abort ∷ (texts ts ++ keyword k.With ∷ text t)
  text (interrupt pos ts t) = keyword k.Interrupt ∷ (texts ts ++ keyword k.With ∷ text t)
  text (send pos port message args after) = word port ∷ symbol s.Bang ∷ word message ∷ (arguments_text args ++ after_text after)
  text (receive pos port message into condition after) = word port ∷ symbol s.Query ∷ word message ∷ (reception_text into condition ++ after_text after)
  text (call pos method args results) = head method ∷ symbol s.LeftParen ∷ (expression.texts s.Comma args ++ symbol s.RightParen ∷ symbol s.LeftParen ∷ (names_text results ++ symbol s.RightParen ∷ []))
  text (assignment pos x e) = word x ∷ symbol s.Assign ∷ expression.text e
  text (value pos e) = expression.text e

  -- with semicolons between them
  pub texts : Statements Id Id Id → List Mark
  texts no_statements = []
  texts (then t ts) = text t ++ tail_texts ts

  -- with a semicolon before each
  pub tail_texts : Statements Id Id Id → List Mark
  tail_texts no_statements = []
  tail_texts (then t ts) = symbol s.Semicolon ∷ (text t ++ tail_texts ts)

  pub otherwise_text : StatementPart Id Id Id → List Mark
  otherwise_text not_written = []
  otherwise_text (otherwise ts) = keyword k.Else ∷ texts ts

  -- with the keyword between them
  pub branches_text : Keyword → Branches Id Id Id → List Mark
  branches_text separator no_branches = []
  branches_text separator (branch b bs) = texts b ++ tail_branches separator bs

  -- with the keyword before each
  pub tail_branches : Keyword → Branches Id Id Id → List Mark
  tail_branches separator no_branches = []
  tail_branches separator (branch b bs) = keyword separator ∷ (texts b ++ tail_branches separator bs)
