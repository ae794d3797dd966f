-- What comes of a selector that is sent.
use Rattle.std.proofs.Common.{◌≡◌, ℕ, List, Result, Ok, Err, refl, ap, subst}
use Rattle.pz_classes_code.specs.pz_syntax.declared.tokens.Pos.{Pos}
use Rattle.pz_classes_code.specs.pz_syntax.declared.names.Id.{Id}
use Rattle.pz_classes_code.specs.pz_syntax.Classes.{ModelTree}
use Rattle.pz_classes_code.specs.pz_value.declared.value.Value.{Value}
use Rattle.pz_state.specs.declared.fault.FaultKind.{FaultKind}
use Rattle.pz_eval_operations.specs.pz_eval_rules.Memories.{Memory}
use Rattle.pz_eval_operations.specs.pz_eval_rules.Answers.{fault, gives, stops}
use Rattle.pz_eval_operations.specs.pz_eval_rules.Steps.{Codes, Reply, answers, runs, reply}
use Rattle.pz_eval_operations.specs.pz_eval_rules.devices.Computed.{Reached, done, Computation, and_then, replied, evaluated}
use Rattle.pz_eval_operations.specs.declared.stop.Stop.{Stop}
use Rattle.pz_eval_operations.specs.declared.stop.Stop.TheVariants as stop
use Rattle.pz_eval_operations.specs.declared.replying.Method.{Method}
use Rattle.pz_eval_operations.specs.declared.replying.Reply.{Reply as Got}
use Rattle.pz_eval_operations.specs.declared.replying.Reply.TheVariants as got
use Rattle.pz_classes_code.specs.CodeView.{list_view}
use Rattle.std.specs.Prelude.{IfOk}
use Rattle.pz_eval_machine.specs.devices.Steps.{Stops}
use Rattle.pz_eval_operations.specs.devices.Replies.{Replies, ReplyWithin, UnlessAnswer}

-- what comes of a reply
module _ (model : ModelTree) (now d : ℕ) (y : Value) (selector : Id) (ws : List Value) (m : Memory) (r : ℕ) (after : Value → Computation Value) where
  pub got_answer : (z : Value) (m1 : Memory) → reply model y selector ws m ≡ answers (gives z m1)
      → and_then (replied model now (evaluated model now d) (reply model y selector ws m) ws m r) after ≡ after z m1 r
  unfolding replied
  got_answer z m1 is = rw is refl

  pub got_run : (o n : ℕ) (body : Codes) → reply model y selector ws m ≡ runs o n body
      → and_then (replied model now (evaluated model now d) (reply model y selector ws m) ws m r) after ≡ and_then (replied model now (evaluated model now d) (runs o n body) ws m r) after
  got_run o n body is = ap (λ (x : Reply). and_then (replied model now (evaluated model now d) x ws m r) after) is

  got_fault : (kind : FaultKind) (at : Pos) → reply model y selector ws m ≡ answers (stops (fault kind at))
      → and_then (replied model now (evaluated model now d) (reply model y selector ws m) ws m r) after ≡ done (stops (fault kind at)) r
  unfolding replied
  got_fault kind at is = rw is refl

  pub got_stop : (e : Stop) (m1 : Memory) (next : Value → Computation Value) → Replies (Err e) (reply model y selector ws m) m1
      → Stops e (and_then (and_then (replied model now (evaluated model now d) (reply model y selector ws m) ws m r) after) next) r
  got_stop stop.NoMemory m1 next h = tt
  got_stop stop.Spent m1 next h = absurd h
  got_stop (stop.Fault kind at) m1 next h = ap (λ (x : Reached Value). and_then x next) (got_fault kind at h)

-- what an arm knows of a reply
pub is_answer : (result : Result Got Stop) (y : Value) (x : Reply) (m : Memory) → result ≡ Ok (got.Answers y) → Replies result x m → x ≡ answers (gives y m)
is_answer result y x m e = subst (λ (k : Result Got Stop). Replies k x m) e

pub is_run : (result : Result Got Stop) (r : ℕ) (method : Method) (x : Reply) (m : Memory) → result ≡ Ok (got.Runs r method) → Replies result x m → x ≡ runs r method.locals (list_view method.code.now)
is_run result r method x m e = subst (λ (k : Result Got Stop). Replies k x m) e

pub is_stop : (result : Result Got Stop) (e : Stop) (x : Reply) (m : Memory) → result ≡ Err e → Replies result x m → Replies (Err e) x m
is_stop result e x m is = subst (λ (k : Result Got Stop). Replies k x m) is

pub run_same : (result : Result Got Stop) (r : ℕ) (method : Method) (P : Type 0) → result ≡ Ok (got.Runs r method) → IfOk result (UnlessAnswer P) → P
run_same result r method P is = subst (λ (k : Result Got Stop). IfOk k (UnlessAnswer P)) is

pub reply_within : (result : Result Got Stop) (y : Got) (n : ℕ) → result ≡ Ok y → IfOk result (ReplyWithin n) → ReplyWithin n y
reply_within result y n is = subst (λ (k : Result Got Stop). IfOk k (ReplyWithin n)) is
