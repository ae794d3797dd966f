-- The bodies of the methods of a small model, worked out, and how they fit its classes.
use Rattle.std.proofs.Common.{◌≡◌, refl, ℕ, List, [], ◌∷◌, Some, None, codes, arith}
use Rattle.std.specs.List.{All}
use Rattle.std.proofs.lemmas.List.Elements.{All-nil, All-cons}
use Rattle.pz_classes_code.specs.pz_syntax.declared.tokens.Pos.{Pos}
use Rattle.pz_classes_code.specs.pz_syntax.declared.names.Id.{Id}
use Rattle.pz_classes_code.specs.pz_syntax.declared.classes.VarGroup.{VarGroup}
use Rattle.pz_classes_code.specs.pz_syntax.Expressions.{Expressions, variable, creation, assign, none, more, left_out, written}
use Rattle.pz_classes_code.specs.pz_syntax.Statements.{send, receive, call, value, assignment, no_statements, then}
use Rattle.pz_classes_code.specs.pz_syntax.Classes.{ProcessMethodTree, DeclTree, data_class, process_class, ModelTree}
use Rattle.pz_classes_code.specs.pz_value.declared.value.ClassId.{ClassId}
use Rattle.pz_classes_code.specs.declared.slot.Slot.{Slot}
use Rattle.pz_classes_code.specs.declared.slot.Slot.TheVariants.{Local, Shared, Unknown}
use Rattle.pz_classes_rules.specs.declared.method_id.Counts.TheVariants.{Process}
use Rattle.pz_classes_rules.specs.Methods.{process_method, method_id}
use Rattle.pz_classes_rules.specs.Bodies.{BodyTree, process_body}
use Rattle.pz_classes_rules.specs.Starts.{init}
use Rattle.pz_classes_rules.specs.MethodBodies.{process_method_body, HasBody}
use Rattle.pz_classes_rules.specs.FitBodies.{a_data_class, process_code, SlotFits, BodyFits, StatementFits}

abbrev place : Pos
place = record { line = 1; column = 1 }

abbrev name : List ℕ → Id
name bytes = record { name = bytes; pos = place }

abbrev integers : List (List ℕ) → List VarGroup
integers [] = []
integers (x ∷ xs) = record { names = name x ∷ []; kind = name (codes "Integer") } ∷ integers xs

-- data class Box
abbrev box : DeclTree
box = data_class (record { name = name (codes "Box"); parent = None; variables = None; methods = None })

abbrev reads : List ℕ → Expressions Id Id
reads x = more (variable place (name x)) none

-- start(n : Integer)() | k : Integer | in?item(k); step(k)(held)
abbrev start : ProcessMethodTree
start = record {
  name = name (codes "start");
  inputs = integers (codes "n" ∷ []);
  outputs = [];
  locals = Some (integers (codes "k" ∷ []));
  body = then (receive place (name (codes "in")) (name (codes "item")) (Some (name (codes "k") ∷ [])) None left_out)
      (then (call place (name (codes "step")) (reads (codes "k")) (name (codes "held") ∷ [])) no_statements);
}

-- step(a : Integer)(b : Integer) b := new(Box)
abbrev step : ProcessMethodTree
step = record {
  name = name (codes "step");
  inputs = integers (codes "a" ∷ []);
  outputs = integers (codes "b" ∷ []);
  locals = None;
  body = then (assignment place (name (codes "b")) (creation place (name (codes "Box")))) no_statements;
}

-- process class P(size : Integer) ports in variables held : Integer init start(size)() methods ..
abbrev parent : DeclTree
parent = process_class (record {
  name = name (codes "P");
  parameters = Some (integers (codes "size" ∷ []));
  parent = None;
  ports = Some (name (codes "in") ∷ []);
  messages = None;
  variables = Some (integers (codes "held" ∷ []));
  start = Some (record { method = name (codes "start"); args = reads (codes "size") });
  methods = Some (start ∷ step ∷ []);
})

-- step(a : Integer)(b : Integer) out!item(more)
abbrev other_step : ProcessMethodTree
other_step = record {
  name = name (codes "step");
  inputs = integers (codes "a" ∷ []);
  outputs = integers (codes "b" ∷ []);
  locals = None;
  body = then (send place (name (codes "out")) (name (codes "item")) (written (reads (codes "more"))) left_out) no_statements;
}

-- process class Q(more : Integer) extends P ports out methods ..
abbrev child : DeclTree
child = process_class (record {
  name = name (codes "Q");
  parameters = Some (integers (codes "more" ∷ []));
  parent = Some (name (codes "P"));
  ports = Some (name (codes "out") ∷ []);
  messages = None;
  variables = None;
  start = None;
  methods = Some (other_step ∷ []);
})

-- classes 1 to 3
abbrev model : ModelTree
model = record { decls = child ∷ parent ∷ box ∷ [] }

abbrev reads_slot : Slot → Expressions Slot ClassId
reads_slot x = more (variable place x) none

-- names stand for what they are where the method is declared
abbrev start_body : BodyTree
start_body = process_body 2
    (then (receive place 0 (name (codes "item")) (Some (Local 1 ∷ [])) None left_out)
    (then (call place (name (codes "step")) (reads_slot (Local 1)) (Shared 1 ∷ [])) no_statements))

abbrev step_body : BodyTree
step_body = process_body 2 (then (value place (assign place (Local 1) (creation place (record { 0 = 3 })))) no_statements)

abbrev other_step_body : BodyTree
other_step_body = process_body 2 (then (send place 1 (name (codes "item")) (written (reads_slot (Shared 2))) left_out) no_statements)

an_own_body : process_method_body model 2 (codes "start") 1 0 ≡ Some start_body
an_own_body = refl

an_inherited_body : process_method_body model 1 (codes "start") 1 0 ≡ Some start_body
an_inherited_body = refl

its_number : process_method model 1 (codes "start") 1 0 ≡ Some (method_id 1)
its_number = refl

the_parents_own : process_method_body model 2 (codes "step") 1 1 ≡ Some step_body
the_parents_own = refl

the_childs_own : process_method_body model 1 (codes "step") 1 1 ≡ Some other_step_body
the_childs_own = refl

no_such_body : process_method_body model 1 (codes "step") 1 0 ≡ None
no_such_body = refl

-- what the parent's method calls is the child's in the child
the_call_in_the_child : HasBody model 1 (record { name = codes "step"; counts = Process 1 1 })
the_call_in_the_child = record { number = method_id 0; found = refl; body = other_step_body; is = refl; there = refl }

one : (x : Slot) → SlotFits model 1 process_code 2 x → All (SlotFits model 1 process_code 2) (x ∷ [])
one x fits = All-cons (SlotFits model 1 process_code 2) x [] fits (All-nil (SlotFits model 1 process_code 2))

an_inherited_body_fits : BodyFits model 1 (Process 1 0) start_body
an_inherited_body_fits =
    (omega arith, ((omega arith, one (Local 1) (omega arith), tt, tt), ((the_call_in_the_child, (omega arith, tt), one (Shared 1) (omega arith)), tt)))

a_created_class_fits : BodyFits model 2 (Process 1 1) step_body
a_created_class_fits = (omega arith, ((omega arith, a_data_class 3 _ refl), tt))

-- a port of the child is none of the parent
no_body_of_the_parent : BodyFits model 2 (Process 1 1) other_step_body → ⊥
no_body_of_the_parent fits = omega (arith, fits.1.0.0)

no_unknown_slot : SlotFits model 1 process_code 2 Unknown → ⊥
no_unknown_slot fits = fits

the_first_call : init model 1 ≡ Some (call place (name (codes "start")) (reads_slot (Shared 0)) [])
the_first_call = refl

no_local_around_it : StatementFits model 1 0 (call place (name (codes "start")) (reads_slot (Local 0)) []) → ⊥
no_local_around_it fits = omega (arith, fits.1.0)
