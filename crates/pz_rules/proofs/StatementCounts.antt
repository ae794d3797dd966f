-- A body with slots and numbers in place of names has as many statements.
use Rattle.std.proofs.Common.{◌≡◌, refl, ap, suc}
use Rattle.pz_bind_rules.specs.pz_syntax.declared.names.Id.{Id}
use Rattle.pz_bind_rules.specs.pz_syntax.Statements.{Statement, skip, delay, bracketed, block, guarded, parallel, select, conditional, repeated, abort, interrupt, send, receive, call, assignment, value, Statements, no_statements, then, StatementPart, not_written, otherwise, Branches, no_branches, branch}
use Rattle.pz_bind_rules.specs.pz_classes_code.Resolution.{Scope, resolved_statement, resolved_statements, resolved_otherwise, resolved_branches}
use Rattle.pz_classes_beginnings.specs.Beginning.{statements_in, statements_in_all, statements_in_part, statements_in_each}

module _ (s : Scope) where
  mutual
    pub as_many : (t : Statement Id Id Id) → statements_in (resolved_statement s t) ≡ statements_in t
    as_many (skip pos) = refl
    as_many (delay pos e) = refl
    as_many (bracketed pos ts) = ap suc (all_as_many ts)
    as_many (block pos es) = refl
    as_many (guarded pos e t) = ap suc (as_many t)
    as_many (parallel pos bs) = ap suc (each_as_many bs)
    as_many (select pos bs) = ap suc (each_as_many bs)
    as_many (conditional pos e ts other) = rw (all_as_many ts, part_as_many other) refl
    as_many (repeated pos e ts) = ap suc (all_as_many ts)
    as_many (abort pos ts t) = rw (all_as_many ts, as_many t) refl
    as_many (interrupt pos ts t) = rw (all_as_many ts, as_many t) refl
    as_many (send pos port name args after) = refl
    as_many (receive pos port name into condition after) = refl
    as_many (call pos method args results) = refl
    as_many (assignment pos x e) = refl
    as_many (value pos e) = refl

    pub all_as_many : (ts : Statements Id Id Id) → statements_in_all (resolved_statements s ts) ≡ statements_in_all ts
    all_as_many no_statements = refl
    all_as_many (then t ts) = rw (as_many t, all_as_many ts) refl

    part_as_many : (ts : StatementPart Id Id Id) → statements_in_part (resolved_otherwise s ts) ≡ statements_in_part ts
    part_as_many not_written = refl
    part_as_many (otherwise ts) = all_as_many ts

    each_as_many : (bs : Branches Id Id Id) → statements_in_each (resolved_branches s bs) ≡ statements_in_each bs
    each_as_many no_branches = refl
    each_as_many (branch ts bs) = rw (all_as_many ts, each_as_many bs) refl
