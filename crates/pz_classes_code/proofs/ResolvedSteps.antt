-- Resolving statements one by one.
use Rattle.std.proofs.Common.{◌≡◌, refl, ap, ℕ, ◌≤◌, List, [], ◌∷◌, map, take, length, Option, Some, None, rules}
use Rattle.std.specs.Prelude.{Result, Ok, Err, IfOk}
use Rattle.std.specs.Option.{option_map}
use Rattle.std.proofs.lemmas.List.{take_all}
use Rattle.pz_syntax.specs.declared.tokens.Pos.{Pos}
use Rattle.pz_syntax.specs.declared.names.Id.{Id}
use Rattle.pz_syntax.specs.declared.exprs.Expr.{Expr}
use Rattle.pz_syntax.specs.declared.stmts.Stmt.{Stmt}
use Rattle.pz_syntax.specs.declared.stmts.StmtForm.{StmtForm}
use Rattle.pz_syntax.specs.declared.stmts.StmtForm.TheVariants as ours
use Rattle.pz_syntax.specs.declared.stmts.StmtForm.TheFolds as old
use Rattle.pz_syntax.specs.Expressions.{assign}
use Rattle.pz_syntax.specs.Statements.{conditional, send, receive, assignment, value, Statements, then, not_written, otherwise}
use Rattle.pz_syntax.specs.ExpressionView as expression
use Rattle.pz_syntax.specs.StatementView as tree
use Rattle.pz_value.specs.declared.value.ClassId.{ClassId}
use Rattle.pz_classes_code.specs.declared.slot.Slot.{Slot}
use Rattle.pz_classes_code.specs.declared.code.Code.{Code}
use Rattle.pz_classes_code.specs.declared.code.CodeForm.TheVariants as codes
use Rattle.pz_classes_code.specs.declared.code.CodeForm.TheFolds as inner
use Rattle.pz_classes_code.specs.declared.step.Step.{Step}
use Rattle.pz_classes_code.specs.declared.step.StepForm.TheVariants as theirs
use Rattle.pz_classes_code.specs.declared.step.StepForm.TheFolds.{the_lemmas}
use Rattle.pz_classes_code.specs.CodeView as code
use Rattle.pz_classes_code.specs.StepView as step
use Rattle.pz_classes_code.specs.Resolution.{Scope, slot_of, slots_of, port_of, resolved, resolved_part, resolved_statement, resolved_statements, resolved_branches}

-- what a choice stands for
shows : (pos : Pos) (test : Code) (part : List Step) (rest : Option (List Step)) → step.form_view (theirs.If test part rest) pos ≡ conditional pos (code.view test) (step.sequence_view part) (step.otherwise_of (option_map (map step.view) rest))
shows pos test part rest = search (rules, the_lemmas)

stands : (pos : Pos) (test : Expr) (part : List Stmt) (rest : Option (List Stmt)) → tree.form_view (ours.If test part rest) pos ≡ conditional pos (expression.view test) (tree.sequence_view part) (tree.otherwise_of (option_map (map tree.view) rest))
stands pos test part rest = search (rules, old.the_lemmas)

shows_send : (pos : Pos) (port : ℕ) (name : Id) (args after : Option (List Code)) → step.form_view (theirs.Send port name args after) pos ≡ send pos port name (code.part_view args) (code.part_view after)
shows_send pos port name args after = search (rules, the_lemmas)

stands_send : (pos : Pos) (port name : Id) (args after : Option (List Expr)) → tree.form_view (ours.Send port name args after) pos ≡ send pos port name (expression.part_view args) (expression.part_view after)
stands_send pos port name args after = search (rules, old.the_lemmas)

shows_receive : (pos : Pos) (port : ℕ) (name : Id) (into : Option (List Slot)) (test : Option Code) (after : Option (List Code))
    → step.form_view (theirs.Receive port name into test after) pos ≡ receive pos port name into (option_map code.view test) (code.part_view after)
shows_receive pos port name into test after = search (rules, the_lemmas)

stands_receive : (pos : Pos) (port name : Id) (into : Option (List Id)) (test : Option Expr) (after : Option (List Expr))
    → tree.form_view (ours.Receive port name into test after) pos ≡ receive pos port name into (option_map expression.view test) (expression.part_view after)
stands_receive pos port name into test after = search (rules, old.the_lemmas)

shows_eval : (pos : Pos) (c : Code) → step.form_view (theirs.Eval c) pos ≡ value pos (code.view c)
shows_eval pos c = search (rules, the_lemmas)

shows_assign : (pos : Pos) (slot : Slot) (c : Code) → code.view (record { pos = pos; form = codes.Assign slot c }) ≡ assign pos slot (code.view c)
shows_assign pos slot c = search (rules, inner.the_lemmas)

stands_assign : (pos : Pos) (x : Id) (e : Expr) → tree.form_view (ours.Assign x e) pos ≡ assignment pos x (expression.view e)
stands_assign pos x e = search (rules, old.the_lemmas)

-- what holds of a value holds of it once it is shared, if there is memory for that
pub once_shared : {T E : Type 0} (P : T → Type 0) (x : T) (r : Result T E) → IfOk r (λ s. s ≡ x) → P x → IfOk r P
once_shared P x (Ok s) is p = rw is p
once_shared P x (Err e) is p = tt

module _ (scope : Scope) where
  list_resolved : (ss : List Stmt) → step.sequence_of (map (λ s. resolved_statement scope (tree.view s)) ss) ≡ resolved_statements scope (tree.sequence_view ss)
  list_resolved [] = refl
  list_resolved (s ∷ ss) = ap (λ (ts : Statements Slot ClassId ℕ). (then) (resolved_statement scope (tree.view s)) ts) (list_resolved ss)

  pub list_done : (ts : List Step) (ss : List Stmt) (i : ℕ) → length ss ≤ i → map step.view ts ≡ map (λ s. resolved_statement scope (tree.view s)) (take i ss) → step.sequence_view ts ≡ resolved_statements scope (tree.sequence_view ss)
  list_done ts ss i past each = rw (each, take_all i ss past) (list_resolved ss)

  branches_resolved : (bs : List (List Stmt)) → step.branches_of (map (λ b. map (λ s. resolved_statement scope (tree.view s)) b) bs) ≡ resolved_branches scope (tree.branches_of (map (map tree.view) bs))
  branches_resolved [] = refl
  branches_resolved (b ∷ bs) =
      let first : step.sequence_of (map (λ s. resolved_statement scope (tree.view s)) b) ≡ resolved_statements scope (tree.sequence_view b) = list_resolved b in
      let rest = branches_resolved bs in
      rw (first, rest)

  pub branches_done : (ts : List (List Step)) (bs : List (List Stmt)) (i : ℕ) → length bs ≤ i → map (map step.view) ts ≡ map (λ b. map (λ s. resolved_statement scope (tree.view s)) b) (take i bs)
      → step.branches_of (map (map step.view) ts) ≡ resolved_branches scope (tree.branches_of (map (map tree.view) bs))
  branches_done ts bs i past each = rw (each, take_all i bs past) (branches_resolved bs)

  pub send_is : (pos : Pos) (port name copied : Id) (to : ℕ) (args after : Option (List Code)) (from block : Option (List Expr)) → copied ≡ name → to ≡ port_of scope port.name
      → code.part_view args ≡ resolved_part scope (expression.part_view from) → code.part_view after ≡ resolved_part scope (expression.part_view block)
      → step.form_view (theirs.Send to copied args after) pos ≡ resolved_statement scope (tree.form_view (ours.Send port name from block) pos)
  send_is pos port name copied to args after from block n p a b =
      let same : send pos to copied (code.part_view args) (code.part_view after) ≡ send pos (port_of scope port.name) name (resolved_part scope (expression.part_view from)) (resolved_part scope (expression.part_view block)) = cc in
      rw (shows_send pos to copied args after, stands_send pos port name from block) same

  pub receive_is : (pos : Pos) (port name copied : Id) (at : ℕ) (into : Option (List Slot)) (test : Option Code) (after : Option (List Code)) (ids : Option (List Id)) (condition : Option Expr) (block : Option (List Expr))
      → copied ≡ name → at ≡ port_of scope port.name → into ≡ option_map (slots_of scope) ids → option_map code.view test ≡ option_map (resolved scope) (option_map expression.view condition)
      → code.part_view after ≡ resolved_part scope (expression.part_view block)
      → step.form_view (theirs.Receive at copied into test after) pos ≡ resolved_statement scope (tree.form_view (ours.Receive port name ids condition block) pos)
  receive_is pos port name copied at into test after ids condition block n p i t b =
      let same : receive pos at copied into (option_map code.view test) (code.part_view after)
      ≡ receive pos (port_of scope port.name) name (option_map (slots_of scope) ids) (option_map (resolved scope) (option_map expression.view condition)) (resolved_part scope (expression.part_view block)) = cc in
      rw (shows_receive pos at copied into test after, stands_receive pos port name ids condition block) same

  pub assignment_is : (pos : Pos) (x : Id) (slot : Slot) (c : Code) (e : Expr) → slot ≡ slot_of scope x.name → code.view c ≡ resolved scope (expression.view e)
      → step.form_view (theirs.Eval (record { pos = pos; form = codes.Assign slot c })) pos ≡ resolved_statement scope (tree.form_view (ours.Assign x e) pos)
  assignment_is pos x slot c e s v =
      let same : value pos (assign pos slot (code.view c)) ≡ value pos (assign pos (slot_of scope x.name) (resolved scope (expression.view e))) = cc in
      rw (shows_eval pos (record { pos = pos; form = codes.Assign slot c }), shows_assign pos slot c, stands_assign pos x e) same

  pub one_part : (pos : Pos) (test : Code) (part : List Step) (from : Expr) (parts : List Stmt) (form : StmtForm) → form ≡ ours.If from parts None
      → code.view test ≡ resolved scope (expression.view from) → step.sequence_view part ≡ resolved_statements scope (tree.sequence_view parts)
      → step.form_view (theirs.If test part None) pos ≡ resolved_statement scope (tree.form_view form pos)
  one_part pos test part from parts form is a b =
      let same : conditional pos (code.view test) (step.sequence_view part) not_written ≡ conditional pos (resolved scope (expression.view from)) (resolved_statements scope (tree.sequence_view parts)) not_written = cc in
      rw (shows pos test part None, is, stands pos from parts None) same

  pub two_parts : (pos : Pos) (test : Code) (part rest : List Step) (from : Expr) (parts others : List Stmt) (form : StmtForm) → form ≡ ours.If from parts (Some others)
      → code.view test ≡ resolved scope (expression.view from) → step.sequence_view part ≡ resolved_statements scope (tree.sequence_view parts) → step.sequence_view rest ≡ resolved_statements scope (tree.sequence_view others)
      → step.form_view (theirs.If test part (Some rest)) pos ≡ resolved_statement scope (tree.form_view form pos)
  two_parts pos test part rest from parts others form is a b d =
      let same : conditional pos (code.view test) (step.sequence_view part) (otherwise (step.sequence_view rest)) ≡ conditional pos (resolved scope (expression.view from)) (resolved_statements scope (tree.sequence_view parts)) (otherwise (resolved_statements scope (tree.sequence_view others))) = cc in
      rw (shows pos test part (Some rest), is, stands pos from parts (Some others)) same
