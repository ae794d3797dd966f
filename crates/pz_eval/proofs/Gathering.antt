-- What the evaluation of a list gathers.
use Rattle.std.proofs.Common.{◌≡◌, ℕ, ◌+◌, ◌<◌, ◌≤◌, List, [], ◌∷◌, ◌++◌, length, drop, get_or, Result, Ok, Err, refl, sym, ap, ◌∙◌, subst}
use Rattle.std.proofs.lemmas.List.{drop_more, drop_all}
use Rattle.pz_classes_code.specs.pz_syntax.Classes.{ModelTree}
use Rattle.pz_classes_code.specs.pz_value.declared.value.Value.{Value}
use Rattle.pz_classes_code.specs.declared.code.Code.{Code}
use Rattle.pz_classes_code.specs.CodeView.{view, list_view}
use Rattle.pz_copy.specs.pz_state.States.{StateView}
use Rattle.pz_eval_machine.specs.pz_eval_rules.declared.outcome.Listed.TheVariants as listed
use Rattle.pz_eval_machine.specs.pz_eval_rules.Memories.{Memory, Location}
use Rattle.pz_eval_machine.specs.pz_eval_rules.Answers.{ends, gives, stops}
use Rattle.pz_eval_machine.specs.pz_eval_rules.Outcomes.{outside}
use Rattle.pz_eval_machine.specs.pz_eval_rules.devices.Computed.{Reached, done, Computation, and_then, arguments, evaluated}
use Rattle.pz_eval_machine.specs.pz_eval_operations.declared.stop.Stop.{Stop}
use Rattle.pz_eval_machine.specs.pz_eval_operations.declared.stop.Stop.TheVariants as stop
use Rattle.pz_eval_machine.specs.declared.control.Finish.{Finish}
use Rattle.pz_eval_machine.specs.devices.Steps.{Stops, finished, Finishes}
use Rattle.pz_eval.specs.devices.Lists.{Gathers}

pub finish_is : (result : Result Finish Stop) (f : Finish) (m : Memory) (r : ℕ) (before : Reached Value) → result ≡ Ok f → Finishes result m r before → before ≡ done (finished f m) r
finish_is result f m r before e h = subst (λ (x : Result Finish Stop). Finishes x m r before) e h

pub stop_is : (result : Result Finish Stop) (stop : Stop) (m : Memory) (r : ℕ) (before : Reached Value) → result ≡ Err stop → Finishes result m r before → Stops stop before r
stop_is result stop m r before e h = subst (λ (x : Result Finish Stop). Finishes x m r before) e h

stops_gathers : (e : Stop) (x : Reached Value) (f : Value → Computation (List Value)) (s : StateView) (r : ℕ) → Stops e x r → Gathers (Err e) s r (and_then x f)
stops_gathers stop.NoMemory x f s r h = tt
stops_gathers stop.Spent x f s r h = ap (λ (y : Reached Value). and_then y f) h
stops_gathers (stop.Fault kind at) x f s r h = ap (λ (y : Reached Value). and_then y f) h

module _ (model : ModelTree) (now d : ℕ) (p : Location) (codes : List Code) where
  -- the next expression, and then those behind it
  next_gathered : (ys : List Value) (i : ℕ) (e : Code) (m : Memory) (r : ℕ) → i < length codes → e ≡ get_or codes i e
      → arguments model now (evaluated model now d) p ys (list_view (drop i codes)) m r ≡ and_then (evaluated model now d p (view e) m r) (λ y. arguments model now (evaluated model now d) p (ys ++ y ∷ []) (list_view (drop (i + 1) codes)))
  unfolding arguments
  next_gathered ys i e m r within is =
      ap (λ (cs : List Code). arguments model now (evaluated model now d) p ys (list_view cs) m r) (drop_more codes i e within ∙ ap (λ (x : Code). x ∷ drop (i + 1) codes) (sym is))

  pub value_gathered : (ys ys1 : List Value) (i : ℕ) (e : Code) (m m1 : Memory) (r r1 : ℕ) (y : Value) → i < length codes → e ≡ get_or codes i e
      → evaluated model now d p (view e) m r ≡ done (gives y m1) r1 → ys1 ≡ ys ++ y ∷ []
      → arguments model now (evaluated model now d) p ys1 (list_view (drop (i + 1) codes)) m1 r1 ≡ arguments model now (evaluated model now d) p ys (list_view (drop i codes)) m r
  value_gathered ys ys1 i e m m1 r r1 y within is found more =
      ap (λ (zs : List Value). arguments model now (evaluated model now d) p zs (list_view (drop (i + 1) codes)) m1 r1) more
      ∙ sym (next_gathered ys i e m r within is ∙ ap (λ (x : Reached Value). and_then x (λ z. arguments model now (evaluated model now d) p (ys ++ z ∷ []) (list_view (drop (i + 1) codes)))) found)

  pub return_gathered : (ys zs : List Value) (i : ℕ) (e : Code) (m : Memory) (s : StateView) (r r1 : ℕ) (y : Value) (all : Reached (List Value)) → i < length codes → e ≡ get_or codes i e
      → evaluated model now d p (view e) m r ≡ done (stops (ends y (outside s))) r1 → zs ≡ y ∷ []
      → arguments model now (evaluated model now d) p ys (list_view (drop i codes)) m r ≡ all → Gathers (Ok zs) s r1 all
  return_gathered ys zs i e m s r r1 y all within is found alone whole =
      let all_is : all ≡ done (stops (ends y (outside s))) r1 = sym whole ∙ next_gathered ys i e m r within is ∙ ap (λ (x : Reached Value). and_then x (λ z. arguments model now (evaluated model now d) p (ys ++ z ∷ []) (list_view (drop (i + 1) codes)))) found in
      subst (λ (x : Reached (List Value)). Gathers (Ok zs) s r1 x) (sym all_is) (ap listed.Values (sym alone), λ before. refl)

  pub stop_gathered : (ys : List Value) (i : ℕ) (e : Code) (m : Memory) (s : StateView) (r r1 : ℕ) (stop : Stop) (all : Reached (List Value)) → i < length codes → e ≡ get_or codes i e
      → Stops stop (evaluated model now d p (view e) m r) r1
      → arguments model now (evaluated model now d) p ys (list_view (drop i codes)) m r ≡ all → Gathers (Err stop) s r1 all
  stop_gathered ys i e m s r r1 stop all within is stopped whole =
      subst (λ (x : Reached (List Value)). Gathers (Err stop) s r1 x) (sym (next_gathered ys i e m r within is) ∙ whole)
      (stops_gathers stop (evaluated model now d p (view e) m r) (λ z. arguments model now (evaluated model now d) p (ys ++ z ∷ []) (list_view (drop (i + 1) codes))) s r1 stopped)

  pub all_gathered : (ys : List Value) (i : ℕ) (s : StateView) (r : ℕ) (all : Reached (List Value)) → length codes ≤ i
      → arguments model now (evaluated model now d) p ys (list_view (drop i codes)) (outside s) r ≡ all → Gathers (Ok ys) s r all
  unfolding arguments
  all_gathered ys i s r all past whole =
      let all_is : all ≡ done (gives ys (outside s)) r = sym whole ∙ ap (λ (cs : List Code). arguments model now (evaluated model now d) p ys (list_view cs) (outside s) r) (drop_all i codes past) in
      subst (λ (x : Reached (List Value)). Gathers (Ok ys) s r x) (sym all_is) (refl, λ before. refl)
