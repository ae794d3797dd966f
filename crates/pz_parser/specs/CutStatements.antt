-- What may stand of a statement before some place in it.
use Rattle.std.specs.Prelude.{List, [], ◌∷◌, ◌++◌, Option, Some, None}
use Rattle.pz_syntax.specs.declared.tokens.Symbol.TheVariants as s
use Rattle.pz_syntax.specs.declared.tokens.Keyword.{Keyword}
use Rattle.pz_syntax.specs.declared.tokens.Keyword.TheVariants as k
use Rattle.pz_syntax.specs.declared.names.Id.{Id}
use Rattle.pz_syntax.specs.Marks.{symbol, keyword, word, head, names_text}
use Rattle.pz_syntax.specs.Expressions.{Expression, Expressions, Part, left_out, written}
use Rattle.pz_syntax.specs.ExpressionText.{arguments_text}
use Rattle.pz_syntax.specs.ExpressionText as expression
use Rattle.pz_syntax.specs.ExpressionNesting.{bracketed_nesting}
use Rattle.pz_syntax.specs.ExpressionNesting as depth
use Rattle.pz_syntax.specs.Statements.{Statement, skip, delay, bracketed, block, guarded, parallel, select, conditional, repeated, abort, interrupt, send, receive, call, assignment, value, Statements, no_statements, then, StatementPart, not_written, otherwise, Branches, no_branches, branch}
use Rattle.pz_syntax.specs.StatementText.{condition_text, reception_text, text, texts, otherwise_text, branches_text}
use Rattle.pz_syntax.specs.StatementNesting.{condition_nesting, reception_nesting, nesting, nestings, otherwise_nesting, branches_nesting}
use Rattle.pz_parser.specs.CutParts.{Cuts, of_marks, part_then, marks_then, mark_then, construct, enclosed}
use Rattle.pz_parser.specs.CutExpressions.{arguments_cut}
use Rattle.pz_parser.specs.CutExpressions as cut_of

-- of expressions in braces
abbrev pub block_cut : Expressions Id Id → Cuts
block_cut es = enclosed s.LeftBrace (expression.texts s.Semicolon es) (depth.nestings es) (cut_of.cuts s.Semicolon es) s.RightBrace

abbrev pub after_cut : Part Id Id → Cuts
after_cut left_out = of_marks []
after_cut (written es) = block_cut es

abbrev pub condition_cut : Option (Expression Id Id) → Cuts
condition_cut None = of_marks []
condition_cut (Some e) = mark_then (symbol s.Bar) (cut_of.cut e)

abbrev pub reception_cut : Option (List Id) → Option (Expression Id Id) → Cuts
reception_cut None condition = of_marks []
reception_cut (Some into) condition = enclosed s.LeftParen (names_text into ++ condition_text condition) (condition_nesting condition) (marks_then (names_text into) (condition_cut condition)) s.RightParen

-- The brackets of a call nest, and its name stands before them. Of its two lists the second has names
-- alone, so that both count where the first does.
abbrev mutual
  pub cut : Statement Id Id Id → Cuts
  cut (skip pos) = of_marks (text (skip pos))
  cut (delay pos e) = mark_then (keyword k.Delay) (cut_of.cut e)
  cut (bracketed pos ts) = enclosed s.LeftParen (texts ts) (nestings ts) (cuts ts) s.RightParen
  cut (block pos es) = block_cut es
  cut (guarded pos e t) = construct (mark_then (symbol s.LeftBracket) (part_then (expression.text e) (depth.nesting e) (cut_of.cut e) (mark_then (symbol s.RightBracket) (cut t))))
  cut (parallel pos bs) = construct (mark_then (keyword k.Par) (part_then (branches_text k.And bs) (branches_nesting bs) (branches_cut k.And bs) (of_marks (keyword k.Rap ∷ []))))
  cut (select pos bs) = construct (mark_then (keyword k.Sel) (part_then (branches_text k.Or bs) (branches_nesting bs) (branches_cut k.Or bs) (of_marks (keyword k.Les ∷ []))))
  cut (conditional pos e body other) = construct (mark_then (keyword k.If) (part_then (expression.text e) (depth.nesting e) (cut_of.cut e) (mark_then (keyword k.Then) (part_then (texts body) (nestings body) (cuts body) (part_then (otherwise_text other) (otherwise_nesting other) (otherwise_cut other) (of_marks (keyword k.Fi ∷ [])))))))
  cut (repeated pos e body) = construct (mark_then (keyword k.While) (part_then (expression.text e) (depth.nesting e) (cut_of.cut e) (mark_then (keyword k.Do) (part_then (texts body) (nestings body) (cuts body) (of_marks (keyword k.Od ∷ []))))))
  cut (abort pos ts t) = construct (mark_then (keyword k.Abort) (part_then (texts ts) (nestings ts) (cuts ts) (mark_then (keyword k.With) (cut t))))
  cut (interrupt pos ts t) = construct (mark_then (keyword k.Interrupt) (part_then (texts ts) (nestings ts) (cuts ts) (mark_then (keyword k.With) (cut t))))
  cut (send pos port message args after) = marks_then (word port ∷ symbol s.Bang ∷ word message ∷ []) (part_then (arguments_text args) (bracketed_nesting args) (arguments_cut args) (after_cut after))
  cut (receive pos port message into condition after) = marks_then (word port ∷ symbol s.Query ∷ word message ∷ []) (part_then (reception_text into condition) (reception_nesting into condition) (reception_cut into condition) (after_cut after))
  cut (call pos method args results) = mark_then (head method) (construct (mark_then (symbol s.LeftParen) (part_then (expression.texts s.Comma args) (depth.nestings args) (cut_of.cuts s.Comma args) (of_marks (symbol s.RightParen ∷ symbol s.LeftParen ∷ (names_text results ++ symbol s.RightParen ∷ []))))))
  cut (assignment pos x e) = marks_then (word x ∷ symbol s.Assign ∷ []) (cut_of.cut e)
  cut (value pos e) = cut_of.cut e

  -- with semicolons between them
  pub cuts : Statements Id Id Id → Cuts
  cuts no_statements = of_marks []
  cuts (then t ts) = part_then (text t) (nesting t) (cut t) (tail_cuts ts)

  -- with a semicolon before each
  pub tail_cuts : Statements Id Id Id → Cuts
  tail_cuts no_statements = of_marks []
  tail_cuts (then t ts) = mark_then (symbol s.Semicolon) (part_then (text t) (nesting t) (cut t) (tail_cuts ts))

  pub otherwise_cut : StatementPart Id Id Id → Cuts
  otherwise_cut not_written = of_marks []
  otherwise_cut (otherwise ts) = mark_then (keyword k.Else) (cuts ts)

  -- with the keyword between them
  pub branches_cut : Keyword → Branches Id Id Id → Cuts
  branches_cut separator no_branches = of_marks []
  branches_cut separator (branch b bs) = part_then (texts b) (nestings b) (cuts b) (tail_branches_cut separator bs)

  -- with the keyword before each
  pub tail_branches_cut : Keyword → Branches Id Id Id → Cuts
  tail_branches_cut separator no_branches = of_marks []
  tail_branches_cut separator (branch b bs) = mark_then (keyword separator) (part_then (texts b) (nestings b) (cuts b) (tail_branches_cut separator bs))
