-- The bodies of methods name the messages that their statements in the text name.
use Rattle.std.proofs.Common.{◌≡◌, ℕ, zero, suc, Bool, true, false, List, [], ◌∷◌, map, Option, Some, None, subst}
use Rattle.std.specs.Prelude.{if◌then◌else◌}
use Rattle.std.specs.Option.{unwrap_or, option_map, option_map_or, option_and_then}
use Rattle.pz_trace.specs.pz_syntax.declared.names.Id.{Id}
use Rattle.pz_trace.specs.pz_syntax.Statements.{Statement, skip, delay, bracketed, block, guarded, parallel, select, conditional, repeated, abort, interrupt, send, receive, call, assignment, value, Statements, no_statements, then, StatementPart, not_written, otherwise, Branches, no_branches, branch}
use Rattle.pz_trace.specs.pz_syntax.Classes.{DataMethodTree, ProcessMethodTree, StartTree, DeclTree, data_class, process_class, cluster_class, system, ModelTree}
use Rattle.pz_trace.specs.pz_syntax.ModelForm.{Each, IfWritten}
use Rattle.pz_trace.specs.pz_classes_code.Resolution.{Scope, resolved_statement, resolved_statements, resolved_otherwise, resolved_branches}
use Rattle.pz_trace.specs.pz_classes_code.StepView.{Tree}
use Rattle.pz_trace.specs.pz_classes_rules.Numbers.{declaration}
use Rattle.pz_trace.specs.pz_classes_rules.Ancestors.{ancestors}
use Rattle.pz_trace.specs.pz_classes_rules.Methods.{Signature, same_signature, data_signature, process_signature, nearest}
use Rattle.pz_trace.specs.pz_classes_rules.Bodies.{BodyTree, data_body, process_body, data_scope, process_scope, data_body_in, process_body_in, process_locals}
use Rattle.pz_trace.specs.pz_classes_rules.MethodBodies.{data_method_in, process_method_in, own_methods, first_body, own_body, body_with}
use Rattle.pz_trace.specs.pz_classes_rules.Starts.{own_start, start_call, own_call, init}
use Rattle.pz_trace_laws.specs.Messages.{StatementUnbroken, StatementsUnbroken, OtherwiseUnbroken, BranchesUnbroken, MethodUnbroken, DeclUnbroken, HasUnbrokenMessages}
use Rattle.pz_trace_laws.proofs.Lists.{each_at, either, written}

module _ (scope : Scope) where
  mutual
    pub resolved_one : (t : Statement Id Id Id) → StatementUnbroken t → StatementUnbroken (resolved_statement scope t)
    resolved_one (skip pos) h = tt
    resolved_one (delay pos e) h = tt
    resolved_one (bracketed pos ts) h = resolved_all ts h
    resolved_one (block pos es) h = tt
    resolved_one (guarded pos e t) h = resolved_one t h
    resolved_one (parallel pos bs) h = resolved_each bs h
    resolved_one (select pos bs) h = resolved_each bs h
    resolved_one (conditional pos e ts other) h = (resolved_all ts h.0, resolved_other other h.1)
    resolved_one (repeated pos e ts) h = resolved_all ts h
    resolved_one (abort pos ts t) h = (resolved_all ts h.0, resolved_one t h.1)
    resolved_one (interrupt pos ts t) h = (resolved_all ts h.0, resolved_one t h.1)
    resolved_one (send pos port message args after) h = h
    resolved_one (receive pos port message into condition after) h = h
    resolved_one (call pos method args results) h = tt
    resolved_one (assignment pos x e) h = tt
    resolved_one (value pos e) h = tt

    pub resolved_all : (ts : Statements Id Id Id) → StatementsUnbroken ts → StatementsUnbroken (resolved_statements scope ts)
    resolved_all no_statements h = tt
    resolved_all ((then) t ts) h = (resolved_one t h.0, resolved_all ts h.1)

    resolved_other : (p : StatementPart Id Id Id) → OtherwiseUnbroken p → OtherwiseUnbroken (resolved_otherwise scope p)
    resolved_other not_written h = tt
    resolved_other (otherwise ts) h = resolved_all ts h

    resolved_each : (bs : Branches Id Id Id) → BranchesUnbroken bs → BranchesUnbroken (resolved_branches scope bs)
    resolved_each no_branches h = tt
    resolved_each (branch ts bs) h = (resolved_all ts h.0, resolved_each bs h.1)

-- a body of statements; one of expressions names no message
abbrev pub BodyUnbroken : BodyTree → Type 0
BodyUnbroken (data_body locals es) = Unit {0}
BodyUnbroken (process_body locals ts) = StatementsUnbroken ts

one_of : (b : Bool) (x : BodyTree) (rest : Option BodyTree) → BodyUnbroken x → IfWritten BodyUnbroken rest → IfWritten BodyUnbroken (if b then Some x else rest)
one_of true x rest h k = h
one_of false x rest h k = k

module _ (m : ModelTree) (s : Signature) where
  data_bodies : (c : ℕ) (rs : List DataMethodTree) → IfWritten BodyUnbroken (first_body s (map (data_method_in (data_scope m c)) rs))
  data_bodies c [] = tt
  data_bodies c (r ∷ rs) =
      one_of (same_signature s (data_signature r)) (data_body_in (data_scope m c) r) (first_body s (map (data_method_in (data_scope m c)) rs)) tt (data_bodies c rs)

  process_bodies : (c : ℕ) (rs : List ProcessMethodTree) → Each MethodUnbroken rs → IfWritten BodyUnbroken (first_body s (map (process_method_in (process_scope m c)) rs))
  process_bodies c [] h = tt
  process_bodies c (r ∷ rs) h =
      one_of (same_signature s (process_signature r)) (process_body_in (process_scope m c) r) (first_body s (map (process_method_in (process_scope m c)) rs))
      (resolved_all (process_scope m c (process_locals r)) r.body h.0) (process_bodies c rs h.1)

  own_of : (c : ℕ) (o : Option DeclTree) → IfWritten DeclUnbroken o → IfWritten BodyUnbroken (first_body s (option_map_or (own_methods m c) o []))
  own_of c None h = tt
  own_of c (Some (data_class d)) h = data_bodies c (unwrap_or d.methods [])
  own_of c (Some (process_class p)) h = process_bodies c (unwrap_or p.methods []) (written MethodUnbroken p.methods h.1)
  own_of c (Some (cluster_class d)) h = tt
  own_of c (Some (system d)) h = tt

  module _ (whole : HasUnbrokenMessages m) where
    declared : (c : ℕ) → IfWritten DeclUnbroken (declaration m c)
    declared zero = tt
    declared (suc i) = each_at DeclUnbroken m.decls i whole

    nearest_of : (line : List ℕ) → IfWritten BodyUnbroken (nearest (own_body m s) line)
    nearest_of [] = tt
    nearest_of (c ∷ line) = either BodyUnbroken (own_body m s c) (nearest (own_body m s) line) (own_of c (declaration m c) (declared c)) (nearest_of line)

    pub body_unbroken : (c : ℕ) (b : BodyTree) → body_with m c s ≡ Some b → BodyUnbroken b
    body_unbroken c b is = subst (λ (o : Option BodyTree). IfWritten BodyUnbroken o) is (nearest_of (ancestors m c))

-- the call with which a process starts sends and receives nothing
module _ (m : ModelTree) where
  abbrev Quiet : Tree → Type 0
  Quiet t = StatementUnbroken t

  called : (c : ℕ) (o : Option StartTree) → IfWritten Quiet (option_map (start_call m c) o)
  called c None = tt
  called c (Some x) = tt

  starts_of : (line : List ℕ) → IfWritten Quiet (nearest (own_call m) line)
  starts_of [] = tt
  starts_of (c ∷ line) = either Quiet (own_call m c) (nearest (own_call m) line) (called c (option_and_then own_start (declaration m c))) (starts_of line)

  pub start_unbroken : (c : ℕ) (t : Tree) → init m c ≡ Some t → StatementUnbroken t
  start_unbroken c t is = subst (λ (o : Option Tree). IfWritten Quiet o) is (starts_of (ancestors m c))
