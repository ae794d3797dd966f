-- Turns of a `while` that are done at once.
use Rattle.std.proofs.Common.{◌≡◌, ℕ, ◌<◌, ◌≤◌, List, [], ◌∷◌, ◌++◌, length, true, Option, Some, None, Result, Ok, Err, Bor, refl, sym, ap, ◌∙◌, subst, arith}
use Rattle.std.specs.Prelude.{OnOk}
use Rattle.pz_classes_code.specs.pz_syntax.declared.tokens.Pos.{Pos}
use Rattle.pz_classes_code.specs.pz_syntax.Expressions.{none, more}
use Rattle.pz_classes_code.specs.pz_syntax.Classes.{ModelTree}
use Rattle.pz_classes_code.specs.pz_value.declared.value.Value.{Value}
use Rattle.pz_classes_code.specs.pz_value.declared.value.Value.TheVariants.{Nil}
use Rattle.pz_classes_code.specs.declared.code.Code.{Code}
use Rattle.pz_classes_code.specs.CodeView.{Tree, view, list_view}
use Rattle.pz_eval_operations.specs.pz_eval_rules.Memories.{Memory, Location}
use Rattle.pz_eval_operations.specs.pz_eval_rules.Steps.{Codes}
use Rattle.pz_eval_operations.specs.pz_eval_rules.devices.Computed.{Reached, Computation, and_then, sequence, going, evaluated}
use Rattle.pz_eval_operations.specs.pz_eval_rules.devices.Laws.{TurnsGoOn}
use Rattle.pz_eval_operations.specs.declared.stop.Stop.{Stop}
use Rattle.pz_eval_operations.specs.declared.task.Task.{Task}
use Rattle.pz_eval_operations.specs.declared.task.Task.TheVariants as task
use Rattle.pz_eval_operations.specs.devices.AtOnce.{Assigned}
use Rattle.pz_eval_machine.specs.devices.Tasks.{turning, pending}
use Rattle.pz_eval_machine.specs.devices.Turns.{Begins, Turned}
use Rattle.pz_eval_machine.proofs.Going.{then_pending, then_same}
use Rattle.pz_eval_machine.proofs.Onward.{list_assigned}

module _ (model : ModelTree) (now d : ℕ) (p : Location) (next : Computation Value) where
  -- what follows a list takes no value of it
  value_free : (y z : Value) (ts : Codes) (m : Memory) (r : ℕ)
      → and_then (sequence model now (evaluated model now d) p y ts m r) (λ _. next) ≡ and_then (sequence model now (evaluated model now d) p z ts m r) (λ _. next)
  unfolding sequence
  value_free y z none m r = refl
  value_free y z (more t ts) m r = refl

  pub numbers_over : (codes : List Code) (m : Memory) (r : ℕ) → length codes ≡ 0 → and_then (sequence model now (evaluated model now d) p Nil (list_view codes) m r) (λ _. next) ≡ next m r
  unfolding sequence
  numbers_over [] m r e = refl
  numbers_over (c ∷ cs) m r e = absurd (omega (arith, e))

  pub numbers_more : (p1 : Location) (z : Value) (first : Code) (rest codes : List Code) (m m1 : Memory) (u u1 : ℕ) → p1 ≡ p → codes ≡ first ∷ rest → Assigned d p1 (view first) m u m1 u1 (Some z)
      → and_then (sequence model now (evaluated model now d) p Nil (list_view rest) m1 u1) (λ _. next) ≡ and_then (sequence model now (evaluated model now d) p Nil (list_view codes) m u) (λ _. next)
  numbers_more p1 z first rest codes m m1 u u1 p_is e found =
      value_free Nil z (list_view rest) m1 u1
      ∙ ap (λ (x : Reached Value). and_then x (λ _. next)) (list_assigned model now d p p Nil z first rest codes m m1 u u1 refl e (subst (λ (q : Location). Assigned d q (view first) m u m1 u1 (Some z)) p_is found))

-- nothing was done
pub numbers_same : (model : ModelTree) (now d : ℕ) (p : Location) (next : Computation Value) (codes : List Code) (m m1 : Memory) (u u1 : ℕ) {x : Reached Value} → m1 ≡ m → u1 ≡ u
    → and_then (sequence model now (evaluated model now d) p Nil (list_view codes) m u) (λ _. next) ≡ x → and_then (sequence model now (evaluated model now d) p Nil (list_view codes) m1 u1) (λ _. next) ≡ x
numbers_same model now d p next codes m m1 u u1 m_is u_is e = rw (m_is, u_is) e

module _ (law : TurnsGoOn) (model : ModelTree) (now d : ℕ) (p : Location) (at : Pos) (t : Tree) (ts : Codes) where
  -- a turn begins
  pub turn_begun : (m : Memory) (u u1 : ℕ) → Begins d p m t u u1 true
      → and_then (sequence model now (evaluated model now d) p Nil ts m u1) (λ _. turning model now d p at t ts) ≡ turning model now d p at t ts m u
  unfolding going
  turn_begun m u u1 begins =
      sym (ap (λ (n : ℕ). turning model now d p at t ts m n) begins.1
      ∙ law model now d p at t ts m begins.0
      ∙ rw (begins.3 model now) refl)

-- a turn begins, and its body is done as far as some place
module _ (law : TurnsGoOn) (model : ModelTree) (now d : ℕ) (p p1 : Location) (at : Pos) (t : Tree) (ts : Codes) (m m2 : Memory) (u u1 u2 : ℕ) (left : List Code)
    (same : p1 ≡ p) (begins : Begins d p1 m t u u1 true)
    (goes : (next : Computation Value) → and_then (sequence model now (evaluated model now d) p1 Nil (list_view left) m2 u2) (λ _. next) ≡ and_then (sequence model now (evaluated model now d) p1 Nil ts m u1) (λ _. next)) where
  pub turn_rest : and_then (sequence model now (evaluated model now d) p Nil (list_view left) m2 u2) (λ _. turning model now d p at t ts) ≡ turning model now d p at t ts m u
  turn_rest =
      subst (λ (q : Location). and_then (sequence model now (evaluated model now d) q Nil (list_view left) m2 u2) (λ _. turning model now d q at t ts) ≡ turning model now d q at t ts m u) same
      (goes (turning model now d p1 at t ts) ∙ turn_begun law model now d p1 at t ts m u u1 begins)

  pub turn_done : length left ≡ 0 → turning model now d p at t ts m2 u2 ≡ turning model now d p at t ts m u
  turn_done empty = sym (numbers_over model now d p (turning model now d p at t ts) left m2 u2 empty) ∙ turn_rest

-- what is left after turns that are done at once
module _ (model : ModelTree) (now d : ℕ) (p p1 : Location) (at : Pos) (test : Bor Code) (body : Bor (List Code)) (m m1 : Memory) (u u1 : ℕ) (ks ks0 : List Task) (same : p1 ≡ p) (tasks : ks0 ≡ ks) where
  pub turn_left : (left : Bor (List Code)) (ks1 : List Task) → Turned model now d p at (view test.now) (list_view body.now) m u m1 u1 (Some left) → ks1 ≡ ks0 ++ task.Turn d at test body ∷ []
      → and_then (sequence model now (evaluated model now d) p1 Nil (list_view left.now) m1 u1) (pending model now p1 ks1)
      ≡ and_then (turning model now d p at (view test.now) (list_view body.now) m u) (pending model now p ks)
  turn_left left ks1 turned e =
      subst (λ (q : Location). and_then (sequence model now (evaluated model now d) q Nil (list_view left.now) m1 u1) (pending model now q ks1) ≡ and_then (turning model now d p at (view test.now) (list_view body.now) m u) (pending model now p ks)) (sym same)
      (then_pending model now p (sequence model now (evaluated model now d) p Nil (list_view left.now) m1 u1) (task.Turn d at test body) ks ks1 (e ∙ ap (λ (xs : List Task). xs ++ task.Turn d at test body ∷ []) tasks)
      ∙ ap (λ (x : Reached Value). and_then x (pending model now p ks)) turned)

  pub turn_next : Turned model now d p at (view test.now) (list_view body.now) m u m1 u1 None
      → and_then (turning model now d p1 at (view test.now) (list_view body.now) m1 u1) (pending model now p1 ks0)
      ≡ and_then (turning model now d p at (view test.now) (list_view body.now) m u) (pending model now p ks)
  turn_next turned =
      then_same model now p1 p ks0 ks
      (subst (λ (q : Location). turning model now d q at (view test.now) (list_view body.now) m1 u1 ≡ turning model now d p at (view test.now) (list_view body.now) m u) (sym same) turned) same tasks

-- units
pub less_then : {A : Type 0} (result : Result A Stop) (u u1 u2 : ℕ) → u1 < u → OnOk result (u2 ≤ u1) → OnOk result (u2 < u)
less_then (Ok x) u u1 u2 less h = omega (arith, less, h)
less_then (Err stop) u u1 u2 less h = tt

pub less_still : {A : Type 0} (result : Result A Stop) (u u1 u2 : ℕ) → u1 ≤ u → OnOk result (u2 < u1) → OnOk result (u2 < u)
less_still (Ok x) u u1 u2 less h = omega (arith, less, h)
less_still (Err stop) u u1 u2 less h = tt
