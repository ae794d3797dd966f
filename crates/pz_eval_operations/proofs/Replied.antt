-- What receivers do with a selector.
use Rattle.std.proofs.Common.{◌≡◌, ℕ, List, length, Some, None, Result, Ok, Err, refl, sym, ap, ◌∙◌, subst}
use Rattle.pz_classes_code.specs.pz_syntax.declared.names.Id.{Id}
use Rattle.pz_classes_code.specs.pz_syntax.Classes.{ModelTree}
use Rattle.pz_classes_code.specs.pz_value.declared.value.ClassId.{ClassId}
use Rattle.pz_classes_code.specs.pz_value.declared.value.Value.{Value}
use Rattle.pz_classes_code.specs.pz_value.declared.value.Value.TheVariants as value
use Rattle.pz_state.specs.declared.fault.FaultKind.{FaultKind}
use Rattle.pz_state.specs.declared.fault.FaultKind.TheVariants.{NotUnderstood}
use Rattle.pz_state.specs.States.{StateView, object}
use Rattle.pz_state.specs.Marks.{Seen, changed}
use Rattle.pz_prims.specs.declared.answer.Prim.{Prim}
use Rattle.pz_prims.specs.declared.answer.Prim.TheVariants as prim
use Rattle.pz_prims.specs.Table.{Outcome, outcome}
use Rattle.pz_eval_rules.specs.Memories.{Memory, with_state}
use Rattle.pz_eval_rules.specs.Answers.{fault, gives, stops}
use Rattle.pz_eval_rules.specs.Steps.{Codes, Reply, answers, runs, reply, reply_to, class_reply, data_method}
use Rattle.pz_eval_operations.specs.declared.stop.Stop.{Stop}
use Rattle.pz_eval_operations.specs.declared.task.Request.{Request}
use Rattle.pz_eval_operations.specs.declared.replying.Reply.{Reply as Got}
use Rattle.pz_eval_operations.specs.declared.replying.Reply.TheVariants as got
use Rattle.std.specs.Prelude.{IfOk}
use Rattle.pz_eval_operations.specs.devices.Replies.{Replies, UnlessAnswer}

-- by the answer of the table
by_value : (model : ModelTree) (m : Memory) (y : Value) (selector : Id) (count : ℕ) (o : Outcome) (z : Value) → o.answer ≡ prim.Value z
    → reply_to model m y selector count o ≡ answers (gives z (with_state m o.state))
by_value model m y selector count o z e = rw e refl

by_fault : (model : ModelTree) (m : Memory) (y : Value) (selector : Id) (count : ℕ) (o : Outcome) (kind : FaultKind) → o.answer ≡ prim.Fault kind
    → reply_to model m y selector count o ≡ answers (stops (fault kind selector.pos))
by_fault model m y selector count o kind e = rw e refl

by_other : (model : ModelTree) (m : Memory) (y : Value) (selector : Id) (count : ℕ) (o : Outcome) → o.answer ≡ prim.Other
    → reply_to model m y selector count o ≡ class_reply model m y selector count
by_other model m y selector count o e = rw e refl

module _ (model : ModelTree) (q : Request) (s s1 : Seen) (locals : List Value) (name : List ℕ) (args : List Value) (x : Prim)
    (name_is : name ≡ q.selector.now.name) (args_is : args ≡ q.arguments.items) (x_is : x ≡ (outcome s.held q.receiver name args).answer) where
  asked : outcome s.held q.receiver name args ≡ outcome s.held q.receiver q.selector.now.name q.arguments.items
  asked = ap (λ (n : List ℕ). outcome s.held q.receiver n args) name_is ∙ ap (λ (ws : List Value). outcome s.held q.receiver q.selector.now.name ws) args_is

  pub reply_value : (z : Value) → x ≡ prim.Value z → s1 ≡ changed s (outcome s.held q.receiver name args).state
      → reply model q.receiver q.selector.now q.arguments.items (record { state = s.held; locals = locals }) ≡ answers (gives z (record { state = s1.held; locals = locals }))
  reply_value z z_is s_is =
      by_value model (record { state = s.held; locals = locals }) q.receiver q.selector.now (length q.arguments.items) (outcome s.held q.receiver q.selector.now.name q.arguments.items) z
      (ap (λ (o : Outcome). o.answer) (sym asked) ∙ sym x_is ∙ z_is)
      ∙ ap (λ (t : StateView). answers (gives z (record { state = t; locals = locals }))) (ap (λ (o : Outcome). o.state) (sym asked) ∙ ap (λ (t : Seen). t.held) (sym s_is))

  pub reply_fault : (kind : FaultKind) → x ≡ prim.Fault kind
      → reply model q.receiver q.selector.now q.arguments.items (record { state = s.held; locals = locals }) ≡ answers (stops (fault kind q.selector.now.pos))
  reply_fault kind k_is =
      by_fault model (record { state = s.held; locals = locals }) q.receiver q.selector.now (length q.arguments.items) (outcome s.held q.receiver q.selector.now.name q.arguments.items) kind
      (ap (λ (o : Outcome). o.answer) (sym asked) ∙ sym x_is ∙ k_is)

  pub reply_other : (count : ℕ) → x ≡ prim.Other → s1 ≡ s → length args ≡ count
      → reply model q.receiver q.selector.now q.arguments.items (record { state = s.held; locals = locals })
      ≡ class_reply model (record { state = s1.held; locals = locals }) q.receiver q.selector.now count
  reply_other count o_is s_is count_is =
      by_other model (record { state = s.held; locals = locals }) q.receiver q.selector.now (length q.arguments.items) (outcome s.held q.receiver q.selector.now.name q.arguments.items)
      (ap (λ (o : Outcome). o.answer) (sym asked) ∙ sym x_is ∙ o_is)
      ∙ ap (λ (n : ℕ). class_reply model (record { state = s.held; locals = locals }) q.receiver q.selector.now n) (ap (λ (ws : List Value). length ws) (sym args_is) ∙ count_is)
      ∙ ap (λ (t : Seen). class_reply model (record { state = t.held; locals = locals }) q.receiver q.selector.now count) (sym s_is)

-- by the class of the receiver
pub no_object_reply : (model : ModelTree) (m : Memory) (y : Value) (selector : Id) (count : ℕ) → ((r : ℕ) → y ≡ value.Ref r → ⊥)
    → class_reply model m y selector count ≡ answers (stops (fault NotUnderstood selector.pos))
no_object_reply model m (value.Ref r) selector count other = absurd (other r refl)
no_object_reply model m value.Nil selector count other = refl
no_object_reply model m (value.Bool b) selector count other = refl
no_object_reply model m (value.Int n) selector count other = refl
no_object_reply model m (value.Char n) selector count other = refl
no_object_reply model m (value.Str text) selector count other = refl

module _ (model : ModelTree) (s : StateView) (locals : List Value) (y : Value) (r : ℕ) (selector : Id) (count : ℕ) (class : ClassId) (name : List ℕ)
    (y_is : y ≡ value.Ref r) (class_is : class ≡ (object s r).class) (name_is : name ≡ selector.name) where
  method_asked : data_method model class name count ≡ data_method model (object s r).class selector.name count
  method_asked = ap (λ (k : ClassId). data_method model k name count) class_is ∙ ap (λ (n : List ℕ). data_method model (object s r).class n count) name_is

  pub class_runs : (n : ℕ) (body : Codes) → Some (n, body) ≡ data_method model class name count
      → class_reply model (record { state = s; locals = locals }) y selector count ≡ runs r n body
  class_runs n body is = rw (y_is, ← method_asked, ← is) refl

  pub class_has_none : None ≡ data_method model class name count
      → class_reply model (record { state = s; locals = locals }) y selector count ≡ answers (stops (fault NotUnderstood selector.pos))
  class_has_none is = rw (y_is, ← method_asked, ← is) refl

pub replies_same : (result : Result Got Stop) (m : Memory) {x y : Reply} → x ≡ y → Replies result x m → Replies result y m
replies_same result m e = subst (λ (z : Reply). Replies result z m) e

pub unless_answer : {P : Type 0} (result : Result Got Stop) → P → IfOk result (UnlessAnswer P)
unless_answer (Ok (got.Answers y)) h = tt
unless_answer (Ok (got.Runs r method)) h = h
unless_answer (Err e) h = tt
