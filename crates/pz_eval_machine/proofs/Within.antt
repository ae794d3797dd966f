-- References stay within what grows.
use Rattle.std.proofs.Common.{◌≡◌, ℕ, ◌-◌, ◌<◌, ◌≤◌, Some, length, List, [], ◌∷◌, ◌++◌, sym, subst, arith}
use Rattle.std.specs.Prelude.{All, IfOk, Result, Ok, Err}
use Rattle.std.specs.List.{slice_index_or}
use Rattle.std.proofs.lemmas.List.Elements.{All-nil, All-cons, All-append, All-replicate, All-pop}
use Rattle.pz_classes_code.specs.pz_value.declared.value.Value.{Value}
use Rattle.pz_classes_code.specs.pz_value.declared.value.Value.TheVariants as value
use Rattle.pz_state.specs.References.{RefersWithin}
use Rattle.pz_state.specs.States.{nils}
use Rattle.pz_eval_operations.specs.declared.task.Request.{Request}
use Rattle.pz_eval_operations.specs.declared.task.Task.{Task}
use Rattle.pz_eval_operations.specs.declared.task.Task.TheVariants as task
use Rattle.pz_eval_operations.specs.declared.task.Site.{Site}
use Rattle.pz_eval_operations.specs.declared.task.Site.TheVariants as site
use Rattle.pz_eval_operations.specs.declared.task.Activation.{Activation}
use Rattle.pz_eval_operations.specs.declared.stop.Stop.{Stop}
use Rattle.pz_eval_machine.specs.declared.control.Control.{Control}
use Rattle.pz_eval_machine.specs.devices.Steps.{given}
use Rattle.pz_eval_operations.specs.devices.Within.{RequestWithin, TaskWithin, SiteWithin, ActivationWithin}
use Rattle.pz_eval_machine.specs.devices.Within.{ControlWithin}

pub all_wider : {X : Type 0} (P Q : X → Type 0) (xs : List X) → ((x : X) → P x → Q x) → All P xs → All Q xs
all_wider P Q xs wider all i d below = wider (slice_index_or xs i d) (all i d below)

pub all_push : {X : Type 0} (P : X → Type 0) (xs xs1 : List X) (x : X) → xs1 ≡ xs ++ x ∷ [] → All P xs → P x → All P xs1
all_push P xs xs1 x e all here = subst (λ ys. All P ys) (sym e) (All-append P xs (x ∷ []) all (All-cons P x [] here (All-nil P)))

module _ (m n : ℕ) (wider : m ≤ n) where
  pub value_wider : (y : Value) → RefersWithin m y → RefersWithin n y
  value_wider value.Nil h = tt
  value_wider (value.Bool b) h = tt
  value_wider (value.Int k) h = tt
  value_wider (value.Char k) h = tt
  value_wider (value.Str text) h = tt
  value_wider (value.Ref r) h = omega arith

  pub values_wider : (ys : List Value) → All (RefersWithin m) ys → All (RefersWithin n) ys
  values_wider ys = all_wider (RefersWithin m) (RefersWithin n) ys value_wider

  request_wider : (q : Request) → RequestWithin m q → RequestWithin n q
  request_wider q h = record { receiver = value_wider q.receiver h.receiver; arguments = values_wider q.arguments.items h.arguments }

  task_wider : (k : Task) → TaskWithin m k → TaskWithin n k
  task_wider (task.Sequence d rest) h = tt
  task_wider (task.Operators d links) h = tt
  task_wider (task.Operand d left l rest) h = value_wider left h
  task_wider (task.Selectors d sendings) h = tt
  task_wider (task.Argument q rest) h = request_wider q.value h
  task_wider (task.Unary op at) h = tt
  task_wider (task.Assign x) h = tt
  task_wider task.Return h = tt
  task_wider (task.If d at part other) h = tt
  task_wider (task.Test d at test body) h = tt
  task_wider (task.Turn d at test body) h = tt

  pub tasks_wider : (ks : List Task) → All (TaskWithin m) ks → All (TaskWithin n) ks
  tasks_wider ks = all_wider (TaskWithin m) (TaskWithin n) ks task_wider

  site_wider : (s : Site) → SiteWithin m s → SiteWithin n s
  site_wider (site.Process frame) h = tt
  site_wider (site.Object r) h = omega arith

  pub activation_wider : (a : Activation) → ActivationWithin m a → ActivationWithin n a
  activation_wider a h = record { site = site_wider a.site h.site; locals = values_wider a.locals.items h.locals; tasks = tasks_wider a.tasks.items h.tasks }

  pub activations_wider : (as_ : List Activation) → All (ActivationWithin m) as_ → All (ActivationWithin n) as_
  activations_wider as_ = all_wider (ActivationWithin m) (ActivationWithin n) as_ activation_wider

-- a caller waits with one more task
pub caller_waits : (count : ℕ) (cs cs1 : List Activation) (a0 a : Activation) (k : Task) → a.site ≡ a0.site → a.locals.items ≡ a0.locals.items → a.tasks.items ≡ a0.tasks.items ++ k ∷ []
    → cs1 ≡ cs ++ a ∷ [] → TaskWithin count k → All (ActivationWithin count) cs → ActivationWithin count a0 → All (ActivationWithin count) cs1
caller_waits count cs cs1 a0 a k site locals tasks e here all within =
    all_push (ActivationWithin count) cs cs1 a e all (record {
      site = subst (λ x. SiteWithin count x) (sym site) within.site;
      locals = subst (λ ys. All (RefersWithin count) ys) (sym locals) within.locals;
      tasks = all_push (TaskWithin count) a0.tasks.items a.tasks.items k tasks within.tasks here;
    })

-- the locals of a method that begins
pub locals_within : (count n : ℕ) (ws ys : List Value) → ys ≡ ws ++ nils (n - length ws) → All (RefersWithin count) ws → All (RefersWithin count) ys
locals_within count n ws ys e all = subst (λ zs. All (RefersWithin count) zs) (sym e) (All-append (RefersWithin count) ws (nils (n - length ws)) all (All-replicate (RefersWithin count) (n - length ws) value.Nil tt))

pub site_within : (count o : ℕ) (s : Site) → s ≡ site.Object o → o < count → SiteWithin count s
site_within count o s e below = rw e below

-- the latest of a list, and those before it
pub all_pop : {X : Type 0} (P : X → Type 0) (xs ys : List X) (x : X) → xs ≡ ys ++ x ∷ [] → All P xs → All P ys × P x
all_pop P xs ys x e all = All-pop P xs ys (Some x) e all

pub given_within : (v : Result Value Stop) (result : Result Control Stop) (count : ℕ) → result ≡ given v → IfOk v (RefersWithin count) → IfOk result (ControlWithin count)
given_within (Ok y) result count e h = rw e h
given_within (Err stop) result count e h = rw e tt
