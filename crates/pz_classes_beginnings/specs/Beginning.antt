-- The plain calls of statements: the calls of process methods without inputs and without results.
use Rattle.std.specs.Prelude.{ℕ, suc, ◌+◌, List, [], ◌∷◌, ◌++◌}
use Rattle.pz_syntax.specs.declared.names.Id.{Id}
use Rattle.pz_syntax.specs.Expressions.{Expressions, none}
use Rattle.pz_syntax.specs.Statements.{Statement, skip, delay, bracketed, block, guarded, parallel, select, conditional, repeated, abort, interrupt, send, receive, call, assignment, value, Statements, no_statements, then, StatementPart, not_written, otherwise, Branches, no_branches, branch}

-- the method of a call, if the call is plain
abbrev pub if_plain : {X K : Type 0} → Id → Expressions X K → List X → List Id
if_plain method none [] = method ∷ []
if_plain method _ _ = []

-- The plain calls with which statements begin, each as often as it stands there. The rest of a
-- sequence begins only when the first statement is done, what `if` and `while` choose only when they
-- act; both parts of `abort` and `interrupt` begin at once.
abbrev mutual
  pub begun : {X K Q : Type 0} → Statement X K Q → List Id
  begun (bracketed pos ts) = begun_all ts
  begun (guarded pos e t) = begun t
  begun (parallel pos bs) = begun_each bs
  begun (select pos bs) = begun_each bs
  begun (abort pos ts t) = begun_all ts ++ begun t
  begun (interrupt pos ts t) = begun_all ts ++ begun t
  begun (call pos method args results) = if_plain method args results
  begun _ = []

  -- of a sequence those of the first statement
  pub begun_all : {X K Q : Type 0} → Statements X K Q → List Id
  begun_all no_statements = []
  begun_all (then t ts) = begun t

  pub begun_each : {X K Q : Type 0} → Branches X K Q → List Id
  begun_each no_branches = []
  begun_each (branch ts bs) = begun_all ts ++ begun_each bs

-- the plain calls that stand in statements at any depth
abbrev mutual
  pub plain_calls : {X K Q : Type 0} → Statement X K Q → List Id
  plain_calls (bracketed pos ts) = all_plain_calls ts
  plain_calls (guarded pos e t) = plain_calls t
  plain_calls (parallel pos bs) = plain_calls_of_each bs
  plain_calls (select pos bs) = plain_calls_of_each bs
  plain_calls (conditional pos e ts other) = all_plain_calls ts ++ plain_calls_of_part other
  plain_calls (repeated pos e ts) = all_plain_calls ts
  plain_calls (abort pos ts t) = all_plain_calls ts ++ plain_calls t
  plain_calls (interrupt pos ts t) = all_plain_calls ts ++ plain_calls t
  plain_calls (call pos method args results) = if_plain method args results
  plain_calls _ = []

  pub all_plain_calls : {X K Q : Type 0} → Statements X K Q → List Id
  all_plain_calls no_statements = []
  all_plain_calls (then t ts) = plain_calls t ++ all_plain_calls ts

  pub plain_calls_of_part : {X K Q : Type 0} → StatementPart X K Q → List Id
  plain_calls_of_part not_written = []
  plain_calls_of_part (otherwise ts) = all_plain_calls ts

  pub plain_calls_of_each : {X K Q : Type 0} → Branches X K Q → List Id
  plain_calls_of_each no_branches = []
  plain_calls_of_each (branch ts bs) = all_plain_calls ts ++ plain_calls_of_each bs

-- How many statements stand there at any depth. Brackets are a statement beside what is in them.
abbrev mutual
  pub statements_in : {X K Q : Type 0} → Statement X K Q → ℕ
  statements_in (bracketed pos ts) = suc (statements_in_all ts)
  statements_in (guarded pos e t) = suc (statements_in t)
  statements_in (parallel pos bs) = suc (statements_in_each bs)
  statements_in (select pos bs) = suc (statements_in_each bs)
  statements_in (conditional pos e ts other) = suc (statements_in_all ts + statements_in_part other)
  statements_in (repeated pos e ts) = suc (statements_in_all ts)
  statements_in (abort pos ts t) = suc (statements_in_all ts + statements_in t)
  statements_in (interrupt pos ts t) = suc (statements_in_all ts + statements_in t)
  statements_in _ = 1

  pub statements_in_all : {X K Q : Type 0} → Statements X K Q → ℕ
  statements_in_all no_statements = 0
  statements_in_all (then t ts) = statements_in t + statements_in_all ts

  pub statements_in_part : {X K Q : Type 0} → StatementPart X K Q → ℕ
  statements_in_part not_written = 0
  statements_in_part (otherwise ts) = statements_in_all ts

  pub statements_in_each : {X K Q : Type 0} → Branches X K Q → ℕ
  statements_in_each no_branches = 0
  statements_in_each (branch ts bs) = statements_in_all ts + statements_in_each bs
