-- What is found of what does not name the clock is the same at each clock.
use Rattle.std.proofs.Common.{◌≡◌, ℕ, false, [], refl, sym, ◌∙◌, subst}
use Rattle.pz_classes_rules.specs.pz_syntax.Classes.{ModelTree}
use Rattle.pz_classes_rules.specs.pz_classes_code.CodeView.{Tree}
use Rattle.pz_state.specs.States.{StateView}
use Rattle.pz_eval_rules.specs.declared.allowance.Allowance.{Allowance}
use Rattle.pz_eval_rules.specs.declared.outcome.Outcome.{Outcome}
use Rattle.pz_eval_rules.specs.declared.outcome.Listed.{Listed}
use Rattle.pz_eval_rules.specs.Memories.{in_process}
use Rattle.pz_eval_rules.specs.Steps.{Codes}
use Rattle.pz_eval_rules.specs.Outcomes.{outside, Finds, FindsAll}
use Rattle.pz_eval_rules.specs.Clocks.{names_clock, list_names_clock, DataIsTimeless}
use Rattle.pz_eval_rules.specs.devices.Computed.{evaluated}
use Rattle.pz_eval_rules.specs.devices.Outcomes.{reached_value, reached_list, outcome_of, listed_of, state_after}
use Rattle.pz_eval_rules.proofs.Exact.{found, only_found, found_list, only_found_list}
use Rattle.pz_eval_rules.proofs.Timeless.{evaluated_same, arguments_same}
use Rattle.pz_eval_rules.proofs.DataMethods.{replies_are_timeless}

module _ (model : ModelTree) (now later frame : ℕ) (s : StateView) (allowed : Allowance) (methods : DataIsTimeless model) where
  pub value_same : (t : Tree) → names_clock t ≡ false → reached_value model later frame s t allowed ≡ reached_value model now frame s t allowed
  value_same t e = evaluated_same model later now allowed.depth (replies_are_timeless model methods) (in_process frame) t (outside s) allowed.units e

  pub list_same : (ts : Codes) → list_names_clock ts ≡ false → reached_list model later frame s ts allowed ≡ reached_list model now frame s ts allowed
  list_same ts e =
      let replies = replies_are_timeless model methods in
      arguments_same model later now (evaluated model later allowed.depth) (evaluated model now allowed.depth) replies
      (λ p t m r f. evaluated_same model later now allowed.depth replies p t m r f) (in_process frame) [] ts (outside s) allowed.units e

  pub value_found : (t : Tree) (o : Outcome) (s1 : StateView) → names_clock t ≡ false → Finds model now frame s t allowed o s1 → Finds model later frame s t allowed o s1
  value_found t o s1 e f =
      let q = only_found model now frame s t allowed f in
      let g = subst (λ r. Finds model later frame s t allowed (outcome_of r) (state_after s r)) (value_same t e) (found model later frame s t allowed) in
      subst (λ x. Finds model later frame s t allowed x s1) (sym q.0)
      (subst (λ x. Finds model later frame s t allowed (outcome_of (reached_value model now frame s t allowed)) x) (sym q.1) g)

  pub list_found : (ts : Codes) (o : Listed) (s1 : StateView) → list_names_clock ts ≡ false → FindsAll model now frame s ts allowed o s1 → FindsAll model later frame s ts allowed o s1
  list_found ts o s1 e f =
      let q = only_found_list model now frame s ts allowed f in
      let g = subst (λ r. FindsAll model later frame s ts allowed (listed_of r) (state_after s r)) (list_same ts e) (found_list model later frame s ts allowed) in
      subst (λ x. FindsAll model later frame s ts allowed x s1) (sym q.0)
      (subst (λ x. FindsAll model later frame s ts allowed (listed_of (reached_list model now frame s ts allowed)) x) (sym q.1) g)
