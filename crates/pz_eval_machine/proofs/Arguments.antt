-- How the arguments of a selector go on.
use Rattle.std.proofs.Common.{◌≡◌, ℕ, ◌+◌, ◌<◌, List, [], ◌∷◌, ◌++◌, length, Result, Bor, Box, Global, refl, ap, ◌∙◌, subst, inl, inr, arith}
use Rattle.pz_classes_code.specs.pz_syntax.Classes.{ModelTree}
use Rattle.pz_classes_code.specs.pz_value.declared.value.Value.{Value}
use Rattle.pz_classes_code.specs.declared.code.Code.{Code}
use Rattle.pz_classes_code.specs.CodeView.{view, list_view}
use Rattle.pz_state.specs.States.{StateView}
use Rattle.pz_eval_operations.specs.pz_eval_rules.Memories.{Memory, Location}
use Rattle.pz_eval_operations.specs.pz_eval_rules.Answers.{gives}
use Rattle.pz_eval_operations.specs.pz_eval_rules.Steps.{Codes}
use Rattle.pz_eval_operations.specs.pz_eval_rules.devices.Computed.{Reached, done, Computation, and_then, arguments, evaluated}
use Rattle.pz_eval_operations.specs.declared.stop.Stop.{Stop}
use Rattle.pz_eval_operations.specs.declared.task.Request.{Request}
use Rattle.pz_eval_operations.specs.declared.task.Task.{Task}
use Rattle.pz_eval_operations.specs.declared.task.Task.TheVariants as task
use Rattle.pz_eval_machine.specs.declared.control.Control.{Control}
use Rattle.pz_eval_operations.specs.declared.task.Activation.{Activation}
use Rattle.pz_eval_operations.specs.devices.Sites.{place_of, memory_of}
use Rattle.pz_eval_operations.specs.devices.Views.{sendings_view}
use Rattle.pz_eval_machine.specs.devices.Tasks.{sent, resumed, pending, meant}
use Rattle.pz_eval_machine.specs.devices.Steps.{Goes}
use Rattle.pz_eval_machine.specs.devices.Weights.{NoMore}
use Rattle.pz_eval_machine.proofs.Going.{goes_same}
use Rattle.pz_eval_machine.proofs.Onward.{arguments_over, arguments_more}

module _ (model : ModelTree) (now : ℕ) where
  -- further arguments of a request, and then its selector
  abbrev pub asked : Location → Request → List Value → Codes → Computation Value
  asked p q ws ts m r = and_then (arguments model now (evaluated model now q.depth) p ws ts m r) (sent model now q.depth p q.receiver q.selector.now (sendings_view q.more.now))

  -- an argument that is found at once
  pub argument_taken : (p : Location) (m : Memory) (q q1 : Request) (ws : List Value) (first : Code) (rest codes : List Code) (y : Value) (d u u1 : ℕ)
      → q1 ≡ q → d ≡ q.depth → ws ≡ q1.arguments.items ++ y ∷ [] → codes ≡ first ∷ rest → evaluated model now d p (view first) m u ≡ done (gives y m) u1
      → asked p q1 ws (list_view rest) m u1 ≡ asked p q q.arguments.items (list_view codes) m u
  unfolding arguments
  argument_taken p m q q1 ws first rest codes y d u u1 q_is d_is ws_is e found =
      let all : ws ≡ q.arguments.items ++ y ∷ [] = ws_is ∙ ap (λ (x : Request). x.arguments.items ++ y ∷ []) q_is in
      let here : evaluated model now q.depth p (view first) m u ≡ done (gives y m) u1 = subst (λ (n : ℕ). evaluated model now n p (view first) m u ≡ done (gives y m) u1) d_is found in
      rw (q_is, all, e, here) refl

  -- one that is given
  pub argument_given : (p : Location) (m : Memory) (r : ℕ) (q q1 : Request) (ws : List Value) (ts : Codes) (y : Value) (next : Value → Computation Value)
      → q1 ≡ q → ws ≡ q1.arguments.items ++ y ∷ [] → and_then (asked p q1 ws ts m r) next ≡ and_then (asked p q (q.arguments.items ++ y ∷ []) ts m r) next
  argument_given p m r q q1 ws ts y next q_is ws_is =
      let all : ws ≡ q.arguments.items ++ y ∷ [] = ws_is ∙ ap (λ (x : Request). x.arguments.items ++ y ∷ []) q_is in rw (q_is, all) refl

  -- one that is waited for
  pub argument_waits : (a a1 : Activation) (s : StateView) (ks : List Task) (q : Box Request Global) (first : Code) (rest : Bor (List Code)) (codes : List Code) (d u u1 : ℕ) (result : Result Control Stop) (x : Reached Value)
      → a1 ≡ a → d ≡ q.value.depth → u1 ≡ u → codes ≡ first ∷ rest.now
      → asked (place_of a.site) q.value q.value.arguments.items (list_view codes) (memory_of a s) u ≡ x
      → Goes (λ c. meant model now (place_of a1.site) ks c (memory_of a1 s) u1) result u1
      (and_then (and_then (evaluated model now d (place_of a1.site) (view first) (memory_of a1 s) u1) (resumed model now (place_of a1.site) (task.Argument q rest))) (pending model now (place_of a1.site) a1.tasks.items))
      → Goes (λ c. meant model now (place_of a1.site) ks c (memory_of a1 s) u1) result u1 (and_then x (pending model now (place_of a.site) a.tasks.items))
  argument_waits a a1 s ks q first rest codes d u u1 result x a_is d_is u_is e x_is =
      goes_same (λ c. meant model now (place_of a1.site) ks c (memory_of a1 s) u1) result u1
      (rw (a_is, d_is, u_is) (arguments_more model now (place_of a.site) (memory_of a s) u (pending model now (place_of a.site) a.tasks.items) q first rest codes e ∙ ap (λ (z : Reached Value). and_then z (pending model now (place_of a.site) a.tasks.items)) x_is))

  -- none is left
  pub arguments_done : (a a1 : Activation) (s : StateView) (q : Request) (codes : List Code) (u : ℕ) (x : Reached Value)
      → a1 ≡ a → length codes ≡ 0 → asked (place_of a.site) q q.arguments.items (list_view codes) (memory_of a s) u ≡ x
      → and_then (sent model now q.depth (place_of a1.site) q.receiver q.selector.now (sendings_view q.more.now) q.arguments.items (memory_of a1 s) u) (pending model now (place_of a1.site) a1.tasks.items)
      ≡ and_then x (pending model now (place_of a.site) a.tasks.items)
  arguments_done a a1 s q codes u x a_is e x_is =
      rw a_is (arguments_over model now (place_of a.site) (memory_of a s) u (pending model now (place_of a.site) a.tasks.items) q codes e ∙ ap (λ (z : Reached Value). and_then z (pending model now (place_of a.site) a.tasks.items)) x_is)

-- what can be done before a unit is counted
pub no_more_counted : (u w u1 w1 u2 w2 : ℕ) → NoMore u w u1 w1 → u2 < u1 → NoMore u w u2 w2
no_more_counted u w u1 w1 u2 w2 (inl h) less = inl (omega (arith, h, less))
no_more_counted u w u1 w1 u2 w2 (inr h) less = inl (omega (arith, h.0, less))

pub no_more_beside : (u w u1 w1 v x : ℕ) → x ≡ v → NoMore u w u1 w1 → NoMore u (w + v) u1 (w1 + x)
no_more_beside u w u1 w1 v x e (inl h) = inl h
no_more_beside u w u1 w1 v x e (inr h) = inr (h.0, omega (arith, h.1, e))

pub no_more_at : (u w u1 u2 w1 w2 : ℕ) → u2 ≡ u1 → w2 ≡ w1 → NoMore u w u1 w1 → NoMore u w u2 w2
no_more_at u w u1 u2 w1 w2 u_is w_is h = rw (u_is, w_is) h
