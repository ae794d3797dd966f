-- The text of a statement has at least as many marks as constructs stand one in another.
use Rattle.std.proofs.Common.{◌≤◌, List, length, length-append, Option, Some, None, arith}
use Rattle.pz_syntax.specs.declared.tokens.Symbol.TheVariants as s
use Rattle.pz_syntax.specs.declared.tokens.Keyword.{Keyword}
use Rattle.pz_syntax.specs.declared.tokens.Keyword.TheVariants as k
use Rattle.pz_syntax.specs.declared.names.Id.{Id}
use Rattle.pz_syntax.specs.Expressions.{Expression, Part, left_out, written}
use Rattle.pz_syntax.specs.ExpressionNesting.{bracketed_nesting}
use Rattle.pz_syntax.specs.Statements.{Statement, skip, delay, bracketed, block, guarded, parallel, select, conditional, repeated, abort, interrupt, send, receive, call, assignment, value, Statements, no_statements, then, StatementPart, not_written, otherwise, Branches, no_branches, branch}
use Rattle.pz_syntax.specs.StatementText.{after_text, condition_text, reception_text, text, texts, tail_texts, otherwise_text, branches_text, tail_branches}
use Rattle.pz_syntax.specs.StatementNesting.{condition_nesting, reception_nesting, nesting, nestings, otherwise_nesting, branches_nesting}
use Rattle.pz_ast.proofs.ExpressionBounds.{expression_bound, expressions_bound, arguments_bound}

after_bound : (after : Part Id Id) → bracketed_nesting after ≤ length (after_text after)
after_bound left_out = omega arith
after_bound (written es) = simp length-append (omega (arith, expressions_bound s.Semicolon es))

condition_bound : (condition : Option (Expression Id Id)) → condition_nesting condition ≤ length (condition_text condition)
condition_bound None = omega arith
condition_bound (Some e) = omega (arith, expression_bound e)

reception_bound : (into : Option (List Id)) (condition : Option (Expression Id Id)) → reception_nesting into condition ≤ length (reception_text into condition)
reception_bound None condition = omega arith
reception_bound (Some into) condition = simp length-append (omega (arith, condition_bound condition))

mutual
  pub statement_bound : (t : Statement Id Id Id) → nesting t ≤ length (text t)
  statement_bound (skip pos) = omega arith
  statement_bound (delay pos e) = omega (arith, expression_bound e)
  statement_bound (bracketed pos ts) = simp length-append (omega (arith, statements_bound ts))
  statement_bound (block pos es) = simp length-append (omega (arith, expressions_bound s.Semicolon es))
  statement_bound (guarded pos e t) = simp length-append (omega (arith, expression_bound e, statement_bound t))
  statement_bound (parallel pos bs) = simp length-append (omega (arith, branches_bound k.And bs))
  statement_bound (select pos bs) = simp length-append (omega (arith, branches_bound k.Or bs))
  statement_bound (conditional pos e body other) = simp length-append (omega (arith, expression_bound e, statements_bound body, otherwise_bound other))
  statement_bound (repeated pos e body) = simp length-append (omega (arith, expression_bound e, statements_bound body))
  statement_bound (abort pos ts t) = simp length-append (omega (arith, statements_bound ts, statement_bound t))
  statement_bound (interrupt pos ts t) = simp length-append (omega (arith, statements_bound ts, statement_bound t))
  statement_bound (send pos port message args after) = simp length-append (omega (arith, arguments_bound args, after_bound after))
  statement_bound (receive pos port message into condition after) = simp length-append (omega (arith, reception_bound into condition, after_bound after))
  statement_bound (call pos method args results) = simp length-append (omega (arith, expressions_bound s.Comma args))
  statement_bound (assignment pos x e) = omega (arith, expression_bound e)
  statement_bound (value pos e) = expression_bound e

  pub statements_bound : (ts : Statements Id Id Id) → nestings ts ≤ length (texts ts)
  statements_bound no_statements = omega arith
  statements_bound (then t ts) = simp length-append (omega (arith, statement_bound t, tail_bound ts))

  tail_bound : (ts : Statements Id Id Id) → nestings ts ≤ length (tail_texts ts)
  tail_bound no_statements = omega arith
  tail_bound (then t ts) = simp length-append (omega (arith, statement_bound t, tail_bound ts))

  otherwise_bound : (other : StatementPart Id Id Id) → otherwise_nesting other ≤ length (otherwise_text other)
  otherwise_bound not_written = omega arith
  otherwise_bound (otherwise ts) = omega (arith, statements_bound ts)

  branches_bound : (separator : Keyword) (bs : Branches Id Id Id) → branches_nesting bs ≤ length (branches_text separator bs)
  branches_bound separator no_branches = omega arith
  branches_bound separator (branch b bs) = simp length-append (omega (arith, statements_bound b, tail_branches_bound separator bs))

  tail_branches_bound : (separator : Keyword) (bs : Branches Id Id Id) → branches_nesting bs ≤ length (tail_branches separator bs)
  tail_branches_bound separator no_branches = omega arith
  tail_branches_bound separator (branch b bs) = simp length-append (omega (arith, statements_bound b, tail_branches_bound separator bs))
