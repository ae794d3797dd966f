-- What each form stands for, and what a step of its evaluation is.
use Rattle.std.proofs.Common.{◌≡◌, ℕ, Bor, ◌-◌, ◌<◌, List, Option, refl, rules}
use Rattle.pz_classes_code.specs.pz_syntax.declared.tokens.Pos.{Pos}
use Rattle.pz_classes_code.specs.pz_syntax.declared.tokens.Symbol.{Symbol}
use Rattle.pz_classes_code.specs.pz_syntax.declared.exprs.Literal.{Literal}
use Rattle.pz_classes_code.specs.pz_syntax.Expressions.{clock, creation, group, sends, unary, assign, returned, choice, loop}
use Rattle.pz_classes_code.specs.pz_syntax.Classes.{ModelTree}
use Rattle.pz_classes_code.specs.pz_value.declared.value.ClassId.{ClassId}
use Rattle.pz_classes_code.specs.pz_value.declared.value.Value.{Value}
use Rattle.pz_classes_code.specs.pz_value.declared.value.Value.TheVariants.{Nil}
use Rattle.pz_classes_code.specs.declared.slot.Slot.{Slot}
use Rattle.pz_classes_code.specs.declared.code.Code.{Code}
use Rattle.pz_classes_code.specs.declared.code.CodeForm.{CodeForm}
use Rattle.pz_classes_code.specs.declared.code.CodeForm.TheVariants as form
use Rattle.pz_classes_code.specs.declared.code.CodeForm.TheFolds.{the_lemmas}
use Rattle.pz_classes_code.specs.declared.code.CodeLink.{CodeLink}
use Rattle.pz_classes_code.specs.declared.code.CodeSending.{CodeSending}
use Rattle.pz_classes_code.specs.CodeView.{Tree, view, form_view, list_view, part_view}
use Rattle.pz_classes_code.specs.Literals.{constant}
use Rattle.pz_eval_operations.specs.pz_eval_rules.Memories.{Memory, Location, read, self_at}
use Rattle.pz_eval_operations.specs.pz_eval_rules.Answers.{gives}
use Rattle.pz_eval_operations.specs.pz_eval_rules.Steps.{time, created, truth, chosen}
use Rattle.pz_eval_operations.specs.pz_eval_rules.devices.Computed.{done, Computation, and_then, tick, tested, sequence, evaluated, step, spent}
use Rattle.pz_eval_operations.specs.declared.task.Task.TheVariants as task
use Rattle.pz_eval_operations.specs.devices.Views.{sendings_view}
use Rattle.pz_eval_machine.specs.devices.Tasks.{turning, resumed}
use Rattle.pz_eval_machine.proofs.Going.{evaluated_is}
use Rattle.pz_eval_operations.proofs.Views.{code_is, literal_view, variable_view, me_view, chain_view}

clock_view : (at : Pos) → form_view form.Clock at ≡ clock at
clock_view at = search (rules, the_lemmas)

creation_view : (class : ClassId) (at : Pos) → form_view (form.New class) at ≡ creation at class
creation_view class at = search (rules, the_lemmas)

group_view : (codes : List Code) (at : Pos) → form_view (form.Group codes) at ≡ group at (list_view codes)
group_view codes at = search (rules, the_lemmas)

pub sends_view : (first : Code) (sendings : List CodeSending) (at : Pos) → form_view (form.Sends first sendings) at ≡ sends at (view first) (sendings_view sendings)
sends_view first sendings at = search (rules, the_lemmas)

unary_view : (op : Symbol) (operand : Code) (at : Pos) → form_view (form.Unary op operand) at ≡ unary at op (view operand)
unary_view op operand at = search (rules, the_lemmas)

assign_view : (x : Slot) (value : Code) (at : Pos) → form_view (form.Assign x value) at ≡ assign at x (view value)
assign_view x value at = search (rules, the_lemmas)

returned_view : (value : Code) (at : Pos) → form_view (form.Return value) at ≡ returned at (view value)
returned_view value at = search (rules, the_lemmas)

choice_view : (test : Code) (part : List Code) (other : Option (List Code)) (at : Pos) → form_view (form.If test part other) at ≡ choice at (view test) (list_view part) (part_view other)
choice_view test part other at = search (rules, the_lemmas)

loop_view : (test : Code) (body : List Code) (at : Pos) → form_view (form.While test body) at ≡ loop at (view test) (list_view body)
loop_view test body at = search (rules, the_lemmas)

module _ (model : ModelTree) (now d : ℕ) (p : Location) (at : Pos) (f : CodeForm) (m : Memory) (u : ℕ) where
  pub at_literal : (x : Literal) → f ≡ form.Lit x → tick (λ m1 r1. done (gives (constant x) m1) r1) m u ≡ step model now (evaluated model now d) p (form_view f at) m u
  unfolding step
  at_literal x is = rw (is, literal_view x at) refl

  pub at_variable : (x : Slot) → f ≡ form.Var x → tick (λ m1 r1. done (gives (read p x m1) m1) r1) m u ≡ step model now (evaluated model now d) p (form_view f at) m u
  unfolding step
  at_variable x is = rw (is, variable_view x at) refl

  pub at_me : f ≡ form.Me → tick (λ m1 r1. done (gives (self_at p) m1) r1) m u ≡ step model now (evaluated model now d) p (form_view f at) m u
  unfolding step
  at_me is = rw (is, me_view at) refl

  pub at_clock : f ≡ form.Clock → tick (λ m1 r1. done (time now at m1) r1) m u ≡ step model now (evaluated model now d) p (form_view f at) m u
  unfolding step
  at_clock is = rw (is, clock_view at) refl

  pub at_creation : (class : ClassId) → f ≡ form.New class → tick (λ m1 r1. done (created model class at m1) r1) m u ≡ step model now (evaluated model now d) p (form_view f at) m u
  unfolding step
  at_creation class is = rw (is, creation_view class at) refl

  pub at_group : (codes codes1 : List Code) → codes1 ≡ codes → f ≡ form.Group codes → tick (sequence model now (evaluated model now d) p Nil (list_view codes1)) m u ≡ step model now (evaluated model now d) p (form_view f at) m u
  unfolding step
  at_group codes codes1 e is = rw (e, is, group_view codes at) refl

  pub at_chain : (first first1 : Code) (links : List CodeLink) (links1 : Bor (List CodeLink)) → first1 ≡ first → links1.now ≡ links → f ≡ form.Chain first links
      → and_then (evaluated model now d p (view first1) m u) (resumed model now p (task.Operators d links1)) ≡ step model now (evaluated model now d) p (form_view f at) m u
  unfolding step
  at_chain first first1 links links1 e l is = rw (e, is, chain_view first links at, ← l) refl

  pub at_sends : (first first1 : Code) (sendings : List CodeSending) (sendings1 : Bor (List CodeSending)) → first1 ≡ first → sendings1.now ≡ sendings → f ≡ form.Sends first sendings
      → and_then (evaluated model now d p (view first1) m u) (resumed model now p (task.Selectors d sendings1)) ≡ step model now (evaluated model now d) p (form_view f at) m u
  unfolding step
  at_sends first first1 sendings sendings1 e l is = rw (e, is, sends_view first sendings at, ← l) refl

  pub at_unary : (op : Symbol) (operand operand1 : Code) → operand1 ≡ operand → f ≡ form.Unary op operand
      → tick (λ m1 r1. and_then (evaluated model now d p (view operand1) m1 r1) (resumed model now p (task.Unary op at))) m u ≡ step model now (evaluated model now d) p (form_view f at) m u
  unfolding step
  at_unary op operand operand1 e is = rw (e, is, unary_view op operand at) refl

  pub at_assign : (x : Slot) (value value1 : Code) → value1 ≡ value → f ≡ form.Assign x value
      → tick (λ m1 r1. and_then (evaluated model now d p (view value1) m1 r1) (resumed model now p (task.Assign x))) m u ≡ step model now (evaluated model now d) p (form_view f at) m u
  unfolding step
  at_assign x value value1 e is = rw (e, is, assign_view x value at) refl

  pub at_return : (value value1 : Code) → value1 ≡ value → f ≡ form.Return value
      → tick (λ m1 r1. and_then (evaluated model now d p (view value1) m1 r1) (resumed model now p task.Return)) m u ≡ step model now (evaluated model now d) p (form_view f at) m u
  unfolding step
  at_return value value1 e is = rw (e, is, returned_view value at) refl

  pub at_choice : (test test1 : Code) (part part1 : List Code) (other : Option (List Code)) → test1 ≡ test → part1 ≡ part → f ≡ form.If test part other
      → tick (λ m1 r1. and_then (evaluated model now d p (view test1) m1 r1) (λ y m2 r2. tested at (truth y) (λ b. sequence model now (evaluated model now d) p Nil (chosen b (list_view part1) (part_view other))) m2 r2)) m u
      ≡ step model now (evaluated model now d) p (form_view f at) m u
  unfolding step
  at_choice test test1 part part1 other e l is = rw (e, l, is, choice_view test part other at) refl

  pub at_loop : (test test1 : Code) (body body1 : List Code) → test1 ≡ test → body1 ≡ body → f ≡ form.While test body
      → turning model now d p at (view test1) (list_view body1) m u ≡ step model now (evaluated model now d) p (form_view f at) m u
  unfolding step
  at_loop test test1 body body1 e l is = rw (e, l, is, loop_view test body at) refl

-- an expression of no depth, and of some
pub nothing_deep : (model : ModelTree) (now d : ℕ) (p : Location) (t : Tree) (m : Memory) (u : ℕ) (next : Value → Computation Value) → d ≡ 0 → and_then (evaluated model now d p t m u) next ≡ spent
unfolding evaluated
nothing_deep model now d p t m u next e = rw e refl

pub begun : (model : ModelTree) (now d : ℕ) (p : Location) (c : Code) (m : Memory) (u : ℕ) → 0 < d
    → step model now (evaluated model now (d - 1)) p (form_view c.form c.pos) m u ≡ evaluated model now d p (view c) m u
begun model now d p c m u lt = rw (evaluated_is model now d lt, code_is c) refl
