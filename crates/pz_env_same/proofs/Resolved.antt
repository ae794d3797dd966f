-- A body with slots and numbers in place of names begins with the same plain calls.
use Rattle.std.proofs.Common.{◌≡◌, refl, List, [], ◌∷◌}
use Rattle.pz_rules.specs.pz_syntax.declared.names.Id.{Id}
use Rattle.pz_rules.specs.pz_syntax.Expressions.{Expressions, none, more}
use Rattle.pz_rules.specs.pz_syntax.Statements.{Statement, skip, delay, bracketed, block, guarded, parallel, select, conditional, repeated, abort, interrupt, send, receive, call, assignment, value, Statements, no_statements, then, Branches, no_branches, branch}
use Rattle.pz_rules.specs.pz_classes_code.Resolution.{Scope, resolved_all, resolved_statement, resolved_statements, resolved_branches, slots_of}
use Rattle.pz_classes_beginnings.specs.Beginning.{if_plain, begun, begun_all, begun_each}

module _ (s : Scope) where
  plain_same : (method : Id) (args : Expressions Id Id) (results : List Id) → if_plain method (resolved_all s args) (slots_of s results) ≡ if_plain method args results
  plain_same method none [] = refl
  plain_same method none (x ∷ xs) = refl
  plain_same method (more e es) results = refl

  mutual
    begun_same : (t : Statement Id Id Id) → begun (resolved_statement s t) ≡ begun t
    begun_same (bracketed pos ts) = begun_all_same ts
    begun_same (guarded pos e t) = begun_same t
    begun_same (parallel pos bs) = begun_each_same bs
    begun_same (select pos bs) = begun_each_same bs
    begun_same (abort pos ts t) = rw (begun_all_same ts, begun_same t) refl
    begun_same (interrupt pos ts t) = rw (begun_all_same ts, begun_same t) refl
    begun_same (call pos method args results) = plain_same method args results
    begun_same (skip pos) = refl
    begun_same (delay pos e) = refl
    begun_same (block pos es) = refl
    begun_same (conditional pos e ts other) = refl
    begun_same (repeated pos e ts) = refl
    begun_same (send pos port name args after) = refl
    begun_same (receive pos port name into condition after) = refl
    begun_same (assignment pos x e) = refl
    begun_same (value pos e) = refl

    pub begun_all_same : (ts : Statements Id Id Id) → begun_all (resolved_statements s ts) ≡ begun_all ts
    begun_all_same no_statements = refl
    begun_all_same (then t ts) = begun_same t

    begun_each_same : (bs : Branches Id Id Id) → begun_each (resolved_branches s bs) ≡ begun_each bs
    begun_each_same no_branches = refl
    begun_each_same (branch ts bs) = rw (begun_all_same ts, begun_each_same bs) refl
