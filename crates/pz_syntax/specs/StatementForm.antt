-- Which statements the grammar has.
use Rattle.std.specs.Prelude.{List, Option, Some, None, ⊤}
use Rattle.pz_syntax.specs.declared.names.Id.{Id}
use Rattle.pz_syntax.specs.Expressions.{Expression, literal, variable, me, clock, creation, group, chain, sends, unary, assign, returned, choice, loop, Part, left_out, written}
use Rattle.pz_syntax.specs.ExpressionForm.{IsValue, AreExpressions, AreArguments}
use Rattle.pz_syntax.specs.Statements.{Statement, skip, delay, bracketed, block, guarded, parallel, select, conditional, repeated, abort, interrupt, send, receive, call, assignment, value, Statements, no_statements, then, StatementPart, not_written, otherwise, Branches, no_branches, branch}

-- It begins as a value that is a statement may: with an identifier, a literal, `new` or
-- `currentTime`.
abbrev pub MayBeginStatement : Expression Id Id → Type 0
MayBeginStatement (literal pos x) = ⊤
MayBeginStatement (variable pos x) = ⊤
MayBeginStatement (me pos) = ⊥
MayBeginStatement (clock pos) = ⊤
MayBeginStatement (creation pos class) = ⊤
MayBeginStatement (group pos ts) = ⊥
MayBeginStatement (chain pos t ls) = MayBeginStatement t
MayBeginStatement (sends pos t ss) = MayBeginStatement t
MayBeginStatement (unary pos op t) = ⊥
MayBeginStatement (assign pos x t) = ⊥
MayBeginStatement (returned pos t) = ⊥
MayBeginStatement (choice pos test body other) = ⊥
MayBeginStatement (loop pos test body) = ⊥

-- a block, or nothing
abbrev pub IsAfter : Part Id Id → Type 0
IsAfter left_out = ⊤
IsAfter (written es) = AreExpressions es

-- a condition only where there are brackets
abbrev pub IsReception : Option (List Id) → Option (Expression Id Id) → Type 0
IsReception into None = ⊤
IsReception None (Some e) = ⊥
IsReception (Some into) (Some e) = IsValue e

abbrev mutual
  pub IsStatement : Statement Id Id Id → Type 0
  IsStatement (skip pos) = ⊤
  IsStatement (delay pos e) = IsValue e
  IsStatement (bracketed pos ts) = AreStatements ts
  IsStatement (block pos es) = AreExpressions es
  IsStatement (guarded pos e t) = IsValue e × IsStatement t
  IsStatement (parallel pos bs) = AreBranches bs
  IsStatement (select pos bs) = AreBranches bs
  IsStatement (conditional pos e body other) = IsValue e × AreStatements body × IsOtherwise other
  IsStatement (repeated pos e body) = IsValue e × AreStatements body
  IsStatement (abort pos ts t) = AreStatements ts × IsStatement t
  IsStatement (interrupt pos ts t) = AreStatements ts × IsStatement t
  IsStatement (send pos port message args after) = AreArguments args × IsAfter after
  IsStatement (receive pos port message into condition after) = IsReception into condition × IsAfter after
  IsStatement (call pos method args results) = AreExpressions args
  IsStatement (assignment pos x e) = IsValue e
  IsStatement (value pos e) = IsValue e × MayBeginStatement e

  -- one or more
  pub AreStatements : Statements Id Id Id → Type 0
  AreStatements no_statements = ⊥
  AreStatements (then t ts) = IsStatement t × FollowStatements ts

  -- none or more
  pub FollowStatements : Statements Id Id Id → Type 0
  FollowStatements no_statements = ⊤
  FollowStatements (then t ts) = IsStatement t × FollowStatements ts

  pub IsOtherwise : StatementPart Id Id Id → Type 0
  IsOtherwise not_written = ⊤
  IsOtherwise (otherwise ts) = AreStatements ts

  -- one or more
  pub AreBranches : Branches Id Id Id → Type 0
  AreBranches no_branches = ⊥
  AreBranches (branch b bs) = AreStatements b × FollowBranches bs

  -- none or more
  pub FollowBranches : Branches Id Id Id → Type 0
  FollowBranches no_branches = ⊤
  FollowBranches (branch b bs) = AreStatements b × FollowBranches bs
