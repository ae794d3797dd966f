-- What one step leaves.
use Rattle.std.proofs.Common.{◌≡◌, ℕ, List, ◌++◌, ◌∷◌, [], Result, Ok, Err, Bor, Option, Some, refl, sym, ap, ◌∙◌, subst}
use Rattle.std.specs.Prelude.{All, IfOk, OnOk}
use Rattle.std.specs.Option.{option_to_list}
use Rattle.pz_classes_code.specs.pz_syntax.Classes.{ModelTree}
use Rattle.pz_classes_code.specs.pz_value.declared.value.Value.{Value}
use Rattle.std.proofs.lemmas.List.Elements.{All-nil}
use Rattle.pz_classes_code.specs.declared.code.Code.{Code}
use Rattle.pz_classes_code.specs.CodeView.{view}
use Rattle.pz_state.specs.States.{StateView}
use Rattle.pz_eval_operations.specs.pz_eval_rules.Memories.{Memory, Location, in_process, in_object}
use Rattle.pz_eval_operations.specs.pz_eval_rules.Outcomes.{outside}
use Rattle.pz_eval_operations.specs.pz_eval_rules.devices.Computed.{Reached, done, evaluated}
use Rattle.pz_eval_operations.specs.declared.stop.Stop.{Stop}
use Rattle.pz_eval_operations.specs.declared.task.Task.{Task}
use Rattle.pz_eval_machine.specs.declared.control.Control.{Control}
use Rattle.pz_eval_machine.specs.declared.control.Control.TheVariants as control
use Rattle.pz_eval_operations.specs.declared.task.Site.{Site}
use Rattle.pz_eval_operations.specs.declared.task.Site.TheVariants as site
use Rattle.pz_eval_machine.specs.declared.control.Finish.{Finish}
use Rattle.pz_eval_operations.specs.declared.task.Activation.{Activation}
use Rattle.pz_eval_machine.specs.declared.control.Progress.{Progress}
use Rattle.pz_eval_operations.specs.devices.Sites.{place_of, memory_at}
use Rattle.pz_eval_machine.specs.devices.Tasks.{pending_before, meant, unwound}
use Rattle.pz_eval_machine.specs.devices.Steps.{Stops, Goes, finished, Advances, went_on, OnOver, Finishes}
use Rattle.pz_eval_operations.specs.devices.Within.{TaskWithin}
use Rattle.pz_eval_machine.specs.devices.Within.{ControlWithin, ProgressWithin}
use Rattle.pz_eval_machine.proofs.Going.{then_gives}
use Rattle.pz_eval_machine.proofs.Unwinding.{goes_unwound, advanced}
use Rattle.pz_eval_machine.proofs.Within.{all_pop}

module _ (control : Result Control Stop) (result : Result Progress Stop) (is : result ≡ went_on control) where
  -- the same method runs, and so do its callers
  pub advanced_in : (model : ModelTree) (now : ℕ) (cs : List Activation) (after : Control → Reached Value) (m : Memory) (r : ℕ) (x y : Reached Value)
      → Goes after control r x → x ≡ y → Advances (λ k. unwound model now cs (after k)) result m r (unwound model now cs y)
  advanced_in model now cs after m r x y h e =
      advanced (λ k. unwound model now cs (after k)) control result m r (unwound model now cs y) is
      (goes_unwound model now cs after control r y (subst (λ (z : Reached Value). Goes after control r z) e h))

pub went_root : (P : Type 0) (control : Result Control Stop) (result : Result Progress Stop) → result ≡ went_on control → OnOk control P → OnOk result P
went_root P (Ok k) result e h = rw e h
went_root P (Err stop) result e h = rw e tt

pub went_bottom : (P : Type 0) (control : Result Control Stop) (result : Result Progress Stop) → result ≡ went_on control → IfOk result (OnOver P)
went_bottom P (Ok k) result e = rw e tt
went_bottom P (Err stop) result e = rw e tt

pub went_within : (B C : Type 0) (count : ℕ) (control : Result Control Stop) (result : Result Progress Stop) → result ≡ went_on control
    → IfOk control (λ k. B × C × ControlWithin count k) → IfOk result (λ p. B × C × ProgressWithin count p)
went_within B C count (Ok k) result e h = rw e h
went_within B C count (Err stop) result e h = rw e tt

pub popped : (ks1 ks : List Task) (o : Option Task) (k : Task) → ks1 ≡ ks ++ option_to_list o → o ≡ Some k → ks1 ≡ ks ++ k ∷ []
popped ks1 ks o k e f = e ∙ ap (λ (x : Option Task). ks ++ option_to_list x) f

pub popped_within : (count : ℕ) (ks1 ks : List Task) (k : Task) → ks1 ≡ ks ++ k ∷ [] → All (TaskWithin count) ks1 → All (TaskWithin count) ks × TaskWithin count k
popped_within count ks1 ks k e all = all_pop (TaskWithin count) ks1 ks k e all

-- an evaluation begins with nothing else to do
pub begun : (model : ModelTree) (now : ℕ) (p : Location) (d : ℕ) (code : Bor Code) (ks : List Task) (m : Memory) (r : ℕ) → ks ≡ []
    → meant model now p ks (control.Evaluate d code) m r ≡ evaluated model now d p (view code.now) m r
unfolding pending_before
begun model now p d code ks m r e = rw e (then_gives (evaluated model now d p (view code.now) m r))

IsProcess : Location → Type 0
IsProcess (in_process f) = Unit {0}
IsProcess (in_object o) = ⊥

left_outside : (a : Site) (s : StateView) (ls : List Value) (n : ℕ) → place_of a ≡ in_process n → memory_at a s ls ≡ outside s
unfolding IsProcess
left_outside (site.Process frame) s ls n e = refl
left_outside (site.Object o) s ls n e = absurd (subst IsProcess (sym e) tt)

pub ended_outside : (result : Result Finish Stop) (a : Site) (s : StateView) (ls : List Value) (n r : ℕ) (before before1 : Reached Value)
    → before ≡ before1 → OnOk result (place_of a ≡ in_process n) → Finishes result (memory_at a s ls) r before → Finishes result (outside s) r before1
ended_outside (Ok f) a s ls n r before before1 e h g = sym e ∙ g ∙ ap (λ (m : Memory). done (finished f m) r) (left_outside a s ls n h)
ended_outside (Err stop) a s ls n r before before1 e h g = subst (λ (x : Reached Value). Stops stop x r) e g

pub nothing_within : {X : Type 0} (P : X → Type 0) (xs : List X) → xs ≡ [] → All P xs
nothing_within P xs e = subst (λ ys. All P ys) (sym e) (All-nil P)
