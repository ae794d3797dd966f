-- How deep the constructs of a statement that nest stand one in another.
use Rattle.std.specs.Prelude.{ℕ, suc, max, List, Option, Some, None}
use Rattle.pz_syntax.specs.declared.names.Id.{Id}
use Rattle.pz_syntax.specs.Expressions.{Expression}
use Rattle.pz_syntax.specs.ExpressionNesting.{bracketed_nesting}
use Rattle.pz_syntax.specs.ExpressionNesting as expression
use Rattle.pz_syntax.specs.Statements.{Statement, skip, delay, bracketed, block, guarded, parallel, select, conditional, repeated, abort, interrupt, send, receive, call, assignment, value, Statements, no_statements, then, StatementPart, not_written, otherwise, Branches, no_branches, branch}

abbrev pub condition_nesting : Option (Expression Id Id) → ℕ
condition_nesting None = 0
condition_nesting (Some e) = expression.nesting e

abbrev pub reception_nesting : Option (List Id) → Option (Expression Id Id) → ℕ
reception_nesting None condition = 0
reception_nesting (Some into) condition = suc (condition_nesting condition)

-- Brackets, blocks, guards, `par`, `sel`, `if`, `while`, `abort`, `interrupt` and a list in brackets
-- nest. Of the two lists of a call the second has names alone, so that the first is as deep.
abbrev mutual
  pub nesting : Statement Id Id Id → ℕ
  nesting (skip pos) = 0
  nesting (delay pos e) = expression.nesting e
  nesting (bracketed pos ts) = suc (nestings ts)
  nesting (block pos es) = suc (expression.nestings es)
  nesting (guarded pos e t) = suc (max (expression.nesting e) (nesting t))
  nesting (parallel pos bs) = suc (branches_nesting bs)
  nesting (select pos bs) = suc (branches_nesting bs)
  nesting (conditional pos e body other) = suc (max (expression.nesting e) (max (nestings body) (otherwise_nesting other)))
  nesting (repeated pos e body) = suc (max (expression.nesting e) (nestings body))
  nesting (abort pos ts t) = suc (max (nestings ts) (nesting t))
  nesting (interrupt pos ts t) = suc (max (nestings ts) (nesting t))
  nesting (send pos port message args after) = max (bracketed_nesting args) (bracketed_nesting after)
  nesting (receive pos port message into condition after) = max (reception_nesting into condition) (bracketed_nesting after)
  nesting (call pos method args results) = suc (expression.nestings args)
  nesting (assignment pos x e) = expression.nesting e
  nesting (value pos e) = expression.nesting e

  pub nestings : Statements Id Id Id → ℕ
  nestings no_statements = 0
  nestings (then t ts) = max (nesting t) (nestings ts)

  pub otherwise_nesting : StatementPart Id Id Id → ℕ
  otherwise_nesting not_written = 0
  otherwise_nesting (otherwise ts) = nestings ts

  pub branches_nesting : Branches Id Id Id → ℕ
  branches_nesting no_branches = 0
  branches_nesting (branch b bs) = max (nestings b) (branches_nesting bs)
