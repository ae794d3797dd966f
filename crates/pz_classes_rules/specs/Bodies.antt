-- The bodies of methods, with slots and numbers in place of names.
use Rattle.std.specs.Prelude.{ℕ, suc, List, [], ◌∷◌, ◌++◌, length, map}
use Rattle.std.specs.Option.{unwrap_or}
use Rattle.pz_classes_code.specs.pz_syntax.declared.names.Id.{Id}
use Rattle.pz_classes_code.specs.pz_syntax.Expressions.{Expressions}
use Rattle.pz_classes_code.specs.pz_syntax.Statements.{Statements}
use Rattle.pz_classes_code.specs.pz_syntax.Classes.{DeclTree, data_class, process_class, DataMethodTree, ProcessMethodTree, ModelTree}
use Rattle.pz_classes_code.specs.pz_value.declared.value.ClassId.{ClassId}
use Rattle.pz_classes_code.specs.declared.slot.Slot.{Slot}
use Rattle.pz_classes_code.specs.Resolution.{Scope, resolved_all, resolved_statements}
use Rattle.pz_classes_code.specs.Places.{place_in}
use Rattle.pz_classes_rules.specs.Numbers.{class}
use Rattle.pz_classes_rules.specs.Members.{grouped, section, spelled, fields, variables, ports}

-- What names stand for in a method that has these of its own, in a class that has these fields or
-- variables and these ports.
abbrev pub scope_of : ModelTree → List (List ℕ) → List (List ℕ) → List Id → Scope
scope_of m shared ports locals = record {
  locals = place_in (spelled locals);
  shared = place_in shared;
  ports = place_in ports;
  classes = class m;
}

-- in a method of the data class c
abbrev pub data_scope : ModelTree → ℕ → List Id → Scope
data_scope m c = scope_of m (spelled (fields m c)) (spelled (ports m c))

-- in a method of the process class c
abbrev pub process_scope : ModelTree → ℕ → List Id → Scope
process_scope m c = scope_of m (spelled (variables m c)) (spelled (ports m c))

-- inputs before locals
abbrev pub data_locals : DataMethodTree → List Id
data_locals r = section r.inputs ++ section r.locals

-- inputs, outputs and locals, in this order
abbrev pub process_locals : ProcessMethodTree → List Id
process_locals r = grouped r.inputs ++ grouped r.outputs ++ section r.locals

-- how many inputs, outputs and locals there are, and what is to be done
pub data BodyTree : Type 0 where
  data_body : ℕ → Expressions Slot ClassId → BodyTree
  process_body : ℕ → Statements Slot ClassId ℕ → BodyTree

-- the body of a method, where names stand for this
abbrev pub data_body_in : (List Id → Scope) → DataMethodTree → BodyTree
data_body_in scope r = data_body (length (data_locals r)) (resolved_all (scope (data_locals r)) r.body)

abbrev pub process_body_in : (List Id → Scope) → ProcessMethodTree → BodyTree
process_body_in scope r = process_body (length (process_locals r)) (resolved_statements (scope (process_locals r)) r.body)

-- the bodies of the methods that class c itself declares, in the order of the text
abbrev pub own_bodies : ModelTree → ℕ → DeclTree → List BodyTree
own_bodies m c (data_class d) = map (data_body_in (data_scope m c)) (unwrap_or d.methods [])
own_bodies m c (process_class p) = map (process_body_in (process_scope m c)) (unwrap_or p.methods [])
own_bodies m c _ = []

-- those of these classes, of which the first is number n
abbrev pub bodies_from : ModelTree → ℕ → List DeclTree → List BodyTree
bodies_from m n [] = []
bodies_from m n (d ∷ ds) = own_bodies m n d ++ bodies_from m (suc n) ds

-- the body of each method of the model at its number
abbrev pub bodies : ModelTree → List BodyTree
bodies m = bodies_from m 1 m.decls
