-- What is to come in the method that runs.
use Rattle.std.proofs.Common.{◌≡◌, ℕ, zero, suc, ◌-◌, ◌<◌, List, [], ◌∷◌, ◌++◌, Result, Ok, Err, refl, sym, ap, ◌∙◌, subst, arith}
use Rattle.pz_classes_code.specs.pz_syntax.Classes.{ModelTree}
use Rattle.pz_classes_code.specs.pz_value.declared.value.Value.{Value}
use Rattle.pz_eval_operations.specs.pz_eval_rules.Memories.{Memory, Location}
use Rattle.pz_eval_operations.specs.pz_eval_rules.Answers.{Answer, gives, stops}
use Rattle.pz_eval_operations.specs.pz_eval_rules.devices.Computed.{Reached, done, spent, Computation, follow, and_then, tick, evaluated, step}
use Rattle.pz_eval_operations.specs.declared.stop.Stop.{Stop}
use Rattle.pz_eval_operations.specs.declared.stop.Stop.TheVariants as stop
use Rattle.pz_eval_machine.specs.declared.control.Control.{Control}
use Rattle.pz_eval_machine.specs.declared.control.Control.TheVariants as control
use Rattle.pz_eval_operations.specs.declared.task.Task.{Task}
use Rattle.pz_eval_machine.specs.devices.Tasks.{resumed, pending_before, pending, meant}
use Rattle.pz_eval_machine.specs.devices.Steps.{Stops, given, Goes}
use Rattle.pz_eval_operations.specs.devices.Telling.{Tells, Counts}

pub then_assoc : {A B C : Type 0} (x : Reached A) (f : A → Computation B) (g : B → Computation C) → and_then (and_then x f) g ≡ and_then x (λ y m r. and_then (f y m r) g)
then_assoc (done (gives y m) r) f g = refl
then_assoc (done (stops e) r) f g = refl
then_assoc spent f g = refl

pub then_gives : (x : Reached Value) → and_then x (λ y m r. done (gives y m) r) ≡ x
then_gives (done (gives y m) r) = refl
then_gives (done (stops e) r) = refl
then_gives spent = refl

pub goes_same : (after : Control → Reached Value) (result : Result Control Stop) (r : ℕ) {x y : Reached Value} → x ≡ y → Goes after result r x → Goes after result r y
goes_same after result r e = subst (λ (z : Reached Value). Goes after result r z) e

pub evaluated_is : (model : ModelTree) (now d : ℕ) → 0 < d → evaluated model now d ≡ step model now (evaluated model now (d - 1))
unfolding evaluated
evaluated_is model now zero lt = absurd (omega arith)
evaluated_is model now (suc d) lt = ap (λ (k : ℕ). step model now (evaluated model now k)) (omega arith)

module _ (model : ModelTree) (now : ℕ) (p : Location) where
  pub pending_push : (next : Value → Computation Value) (ks : List Task) (k : Task)
      → pending_before model now p next (ks ++ k ∷ []) ≡ (λ y m r. and_then (resumed model now p k y m r) (pending_before model now p next ks))
  unfolding pending_before
  pending_push next [] k = refl
  pending_push next (j ∷ ks) k = pending_push (λ y m r. and_then (resumed model now p j y m r) next) ks k

  -- a computation, then a task, and then those before it
  pub then_pending : (x : Reached Value) (k : Task) (ks ks1 : List Task) → ks1 ≡ ks ++ k ∷ []
      → and_then x (pending model now p ks1) ≡ and_then (and_then x (resumed model now p k)) (pending model now p ks)
  then_pending x k ks ks1 e =
      ap (λ (js : List Task). and_then x (pending model now p js)) e
      ∙ ap (λ (f : Value → Computation Value). and_then x f) (pending_push (λ y m r. done (gives y m) r) ks k)
      ∙ sym (then_assoc x (resumed model now p k) (pending model now p ks))

  -- the latest task is given a value
  pub pending_pop : (y : Value) (m : Memory) (r : ℕ) (k : Task) (ks ks1 : List Task) → ks1 ≡ ks ++ k ∷ []
      → pending model now p ks1 y m r ≡ and_then (resumed model now p k y m r) (pending model now p ks)
  pending_pop y m r k ks ks1 e =
      ap (λ (js : List Task). pending model now p js y m r) e
      ∙ ap (λ (f : Value → Computation Value). f y m r) (pending_push (λ z m1 r1. done (gives z m1) r1) ks k)

-- the same, and then the same tasks
pub then_same : (model : ModelTree) (now : ℕ) (p p1 : Location) (ks ks1 : List Task) {x x1 : Reached Value} → x ≡ x1 → p ≡ p1 → ks ≡ ks1 → and_then x (pending model now p ks) ≡ and_then x1 (pending model now p1 ks1)
then_same model now p p1 ks ks1 x_is p_is ks_is = rw (x_is, p_is, ks_is) refl

-- nothing is left to do
pub given_none : (model : ModelTree) (now : ℕ) (p : Location) (k : Control) (y : Value) (ks : List Task) (m : Memory) (r : ℕ) → k ≡ control.Give y → ks ≡ [] → done (gives y m) r ≡ meant model now p ks k m r
unfolding pending_before
given_none model now p k y ks m r e f = rw (e, f) refl

-- the latest task is left to do
pub given_some : (model : ModelTree) (now : ℕ) (p : Location) (j : Control) (y : Value) (k : Task) (ks ks1 : List Task) (m : Memory) (r : ℕ) → j ≡ control.Give y → ks1 ≡ ks ++ k ∷ []
    → and_then (resumed model now p k y m r) (pending model now p ks) ≡ meant model now p ks1 j m r
given_some model now p j y k ks ks1 m r e f = sym (ap (λ (x : Control). meant model now p ks1 x m r) e ∙ pending_pop model now p y m r k ks ks1 f)

-- a value is given after one unit
pub given_goes : (model : ModelTree) (now : ℕ) (p : Location) (ks : List Task) (v : Result Value Stop) (result : Result Control Stop) (f : Memory → Answer Value) (m m1 : Memory) (u r : ℕ)
    → u ≡ suc r → result ≡ given v → Tells v (f m) m1
    → Goes (λ k. meant model now p ks k m1 r) result r (and_then (tick (λ m2 r2. done (f m2) r2) m u) (pending model now p ks))
given_goes model now p ks (Ok y) result f m m1 u r u_is e h = rw (u_is, e, h) refl
given_goes model now p ks (Err stop.NoMemory) result f m m1 u r u_is e h = rw e tt
given_goes model now p ks (Err stop.Spent) result f m m1 u r u_is e h = absurd h
given_goes model now p ks (Err (stop.Fault kind at)) result f m m1 u r u_is e h = rw (u_is, e, h) refl

pub one_left : (f : Computation Value) (m : Memory) (u r : ℕ) → u ≡ suc r → tick f m u ≡ f m r
one_left f m u r e = ap (λ (n : ℕ). tick f m n) e

pub told_goes : (model : ModelTree) (now : ℕ) (p : Location) (ks : List Task) (v : Result Value Stop) (result : Result Control Stop) (a : Answer Value) (m1 : Memory) (r : ℕ)
    → result ≡ given v → Tells v a m1
    → Goes (λ k. meant model now p ks k m1 r) result r (and_then (done a r) (pending model now p ks))
told_goes model now p ks (Ok y) result a m1 r e h = rw (e, h) refl
told_goes model now p ks (Err stop.NoMemory) result a m1 r e h = rw e tt
told_goes model now p ks (Err stop.Spent) result a m1 r e h = absurd h
told_goes model now p ks (Err (stop.Fault kind at)) result a m1 r e h = rw (e, h) refl

-- an operator is applied after one unit
pub counted_on : (z : Value) (f : Memory → Answer Value) (g : Value → Computation Value) (m m1 : Memory) (u r : ℕ) (next : Value → Computation Value) → Counts (Ok z) (f m) m1 u r
    → and_then (g z m1 r) next ≡ and_then (tick (λ m2 r2. follow (f m2) r2 g) m u) next
counted_on z f g m m1 u r next h = rw (h.0, h.1) refl

pub counted_stops : (e : Stop) (f : Memory → Answer Value) (g : Value → Computation Value) (m m1 : Memory) (u r : ℕ) (next : Value → Computation Value) → Counts (Err e) (f m) m1 u r
    → Stops e (and_then (tick (λ m2 r2. follow (f m2) r2 g) m u) next) r
counted_stops stop.NoMemory f g m m1 u r next h = tt
counted_stops stop.Spent f g m m1 u r next h = rw h refl
counted_stops (stop.Fault kind at) f g m m1 u r next h = rw (h.0, h.1) refl
