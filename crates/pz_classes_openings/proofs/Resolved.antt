-- A body with slots and numbers in place of names has the same plain calls, and begins with the same.
use Rattle.std.proofs.Common.{◌≡◌, refl, List, [], ◌∷◌}
use Rattle.pz_classes_rules.specs.pz_syntax.declared.names.Id.{Id}
use Rattle.pz_classes_rules.specs.pz_syntax.Expressions.{Expressions, none, more}
use Rattle.pz_classes_rules.specs.pz_syntax.Statements.{Statement, skip, delay, bracketed, block, guarded, parallel, select, conditional, repeated, abort, interrupt, send, receive, call, assignment, value, Statements, no_statements, then, StatementPart, not_written, otherwise, Branches, no_branches, branch}
use Rattle.pz_classes_rules.specs.pz_classes_code.Resolution.{Scope, resolved_all, resolved_statement, resolved_statements, resolved_otherwise, resolved_branches, slots_of}
use Rattle.pz_classes_beginnings.specs.Beginning.{if_plain, begun, begun_all, begun_each, plain_calls, all_plain_calls, plain_calls_of_part, plain_calls_of_each}

module _ (s : Scope) where
  plain_same : (method : Id) (args : Expressions Id Id) (results : List Id) → if_plain method (resolved_all s args) (slots_of s results) ≡ if_plain method args results
  plain_same method none [] = refl
  plain_same method none (x ∷ xs) = refl
  plain_same method (more e es) results = refl

  mutual
    pub begun_same : (t : Statement Id Id Id) → begun (resolved_statement s t) ≡ begun t
    begun_same (skip pos) = refl
    begun_same (delay pos e) = refl
    begun_same (bracketed pos ts) = begun_all_same ts
    begun_same (block pos es) = refl
    begun_same (guarded pos e t) = begun_same t
    begun_same (parallel pos bs) = begun_each_same bs
    begun_same (select pos bs) = begun_each_same bs
    begun_same (conditional pos e ts other) = refl
    begun_same (repeated pos e ts) = refl
    begun_same (abort pos ts t) = rw (begun_all_same ts, begun_same t) refl
    begun_same (interrupt pos ts t) = rw (begun_all_same ts, begun_same t) refl
    begun_same (send pos port name args after) = refl
    begun_same (receive pos port name into condition after) = refl
    begun_same (call pos method args results) = plain_same method args results
    begun_same (assignment pos x e) = refl
    begun_same (value pos e) = refl

    pub begun_all_same : (ts : Statements Id Id Id) → begun_all (resolved_statements s ts) ≡ begun_all ts
    begun_all_same no_statements = refl
    begun_all_same (then t ts) = begun_same t

    begun_each_same : (bs : Branches Id Id Id) → begun_each (resolved_branches s bs) ≡ begun_each bs
    begun_each_same no_branches = refl
    begun_each_same (branch ts bs) = rw (begun_all_same ts, begun_each_same bs) refl

  mutual
    pub calls_same : (t : Statement Id Id Id) → plain_calls (resolved_statement s t) ≡ plain_calls t
    calls_same (skip pos) = refl
    calls_same (delay pos e) = refl
    calls_same (bracketed pos ts) = all_calls_same ts
    calls_same (block pos es) = refl
    calls_same (guarded pos e t) = calls_same t
    calls_same (parallel pos bs) = each_calls_same bs
    calls_same (select pos bs) = each_calls_same bs
    calls_same (conditional pos e ts other) = rw (all_calls_same ts, part_calls_same other) refl
    calls_same (repeated pos e ts) = all_calls_same ts
    calls_same (abort pos ts t) = rw (all_calls_same ts, calls_same t) refl
    calls_same (interrupt pos ts t) = rw (all_calls_same ts, calls_same t) refl
    calls_same (send pos port name args after) = refl
    calls_same (receive pos port name into condition after) = refl
    calls_same (call pos method args results) = plain_same method args results
    calls_same (assignment pos x e) = refl
    calls_same (value pos e) = refl

    pub all_calls_same : (ts : Statements Id Id Id) → all_plain_calls (resolved_statements s ts) ≡ all_plain_calls ts
    all_calls_same no_statements = refl
    all_calls_same (then t ts) = rw (calls_same t, all_calls_same ts) refl

    part_calls_same : (ts : StatementPart Id Id Id) → plain_calls_of_part (resolved_otherwise s ts) ≡ plain_calls_of_part ts
    part_calls_same not_written = refl
    part_calls_same (otherwise ts) = all_calls_same ts

    each_calls_same : (bs : Branches Id Id Id) → plain_calls_of_each (resolved_branches s bs) ≡ plain_calls_of_each bs
    each_calls_same no_branches = refl
    each_calls_same (branch ts bs) = rw (all_calls_same ts, each_calls_same bs) refl
