-- What can be done before a unit is counted becomes less.
use Rattle.std.proofs.Common.{◌≡◌, ℕ, suc, ◌+◌, ◌<◌, ◌≤◌, List, [], ◌∷◌, ◌++◌, length, Bool, true, false, Result, Ok, Err, refl, ap, inl, inr, arith}
use Rattle.std.specs.Prelude.{IfOk, OnOk}
use Rattle.std.specs.List.{sum_by}
use Rattle.std.proofs.lemmas.List.Sums.{sum_by_push}
use Rattle.pz_classes_code.specs.pz_syntax.declared.tokens.Pos.{Pos}
use Rattle.pz_classes_code.specs.pz_syntax.Expressions.{Part, left_out, written}
use Rattle.pz_classes_code.specs.pz_value.declared.value.ClassId.{ClassId}
use Rattle.pz_classes_code.specs.pz_value.declared.value.Value.{Value}
use Rattle.pz_classes_code.specs.declared.slot.Slot.{Slot}
use Rattle.pz_classes_code.specs.declared.code.Code.{Code}
use Rattle.pz_classes_code.specs.declared.code.CodeForm.{CodeForm}
use Rattle.pz_classes_code.specs.declared.code.CodeForm.TheVariants as form
use Rattle.pz_classes_code.specs.declared.code.CodeLink.{CodeLink}
use Rattle.pz_classes_code.specs.declared.code.CodeSending.{CodeSending, out-CodeSending}
use Rattle.pz_classes_code.specs.CodeView.{view, form_view, list_view, part_view}
use Rattle.pz_eval_operations.specs.pz_eval_rules.Evaluation.{arguments_of}
use Rattle.pz_eval_operations.specs.pz_eval_rules.Steps.{Codes, chosen}
use Rattle.pz_eval_operations.specs.declared.stop.Stop.{Stop}
use Rattle.pz_eval_operations.specs.declared.task.Task.{Task}
use Rattle.pz_eval_machine.specs.declared.control.Control.{Control}
use Rattle.pz_eval_operations.specs.declared.task.Activation.{Activation}
use Rattle.pz_eval_machine.specs.declared.control.Progress.{Progress}
use Rattle.pz_eval_machine.specs.declared.control.Progress.TheVariants as progress
use Rattle.pz_eval_operations.specs.devices.Views.{links_view, sendings_view}
use Rattle.pz_eval_machine.specs.devices.Steps.{given, went_on}
use Rattle.pz_eval_machine.specs.devices.Weights.{weight, list_weight, part_weight, links_weight, sendings_weight, task_weight, tasks_weight, control_weight, load, caller_weight, callers_weight, Falls, NoMore, WhileOn}
use Rattle.pz_eval_operations.proofs.Views.{code_is, chain_view, link_is}
use Rattle.pz_eval_machine.proofs.Forms.{sends_view}
use Rattle.pz_eval_machine.proofs.Onward.{sending_is}

-- tasks and callers
pub tasks_pushed : (ks ks1 : List Task) (k : Task) → ks1 ≡ ks ++ k ∷ [] → tasks_weight ks1 ≡ task_weight k + tasks_weight ks
unfolding tasks_weight
tasks_pushed ks ks1 k e = omega (arith, ap (λ (xs : List Task). sum_by task_weight xs) e, sum_by_push task_weight ks k)

pub callers_pushed : (cs cs1 : List Activation) (a : Activation) → cs1 ≡ cs ++ a ∷ [] → callers_weight cs1 ≡ suc (tasks_weight a.tasks.items) + callers_weight cs
unfolding callers_weight
callers_pushed cs cs1 a e = omega (arith, ap (λ (xs : List Activation). sum_by caller_weight xs) e, sum_by_push caller_weight cs a)

-- lists
pub no_list : (codes : List Code) → length codes ≡ 0 → list_weight (list_view codes) ≡ 0
unfolding list_weight
no_list [] e = refl
no_list (c ∷ cs) e = absurd (omega (arith, e))

pub some_list : (first : Code) (rest codes : List Code) → codes ≡ first ∷ rest → list_weight (list_view codes) ≡ suc (weight (view first) + list_weight (list_view rest))
unfolding list_weight
some_list first rest codes e = rw e refl

-- operators
pub some_operators : (first : CodeLink) (rest links : List CodeLink) → links ≡ first ∷ rest → links_weight (links_view links) ≡ weight (view first.operand)
unfolding links_weight
some_operators first rest links e = rw (e, link_is first) refl

-- selectors
of_arguments : (args : Part Slot ClassId) → part_weight args ≡ list_weight (arguments_of args)
unfolding part_weight list_weight
of_arguments left_out = refl
of_arguments (written ts) = refl

pub some_selectors : (first : CodeSending) (rest sendings : List CodeSending) (ts : Codes) → sendings ≡ first ∷ rest → ts ≡ arguments_of (part_view (out-CodeSending first).args)
    → sendings_weight (sendings_view sendings) ≡ list_weight ts
unfolding sendings_weight
some_selectors first rest sendings ts e ts_is = rw (e, sending_is first, ts_is) (of_arguments (part_view (out-CodeSending first).args))

-- a part of an `if`
pub chosen_weighs : (b : Bool) (ts codes : Codes) (other : Part Slot ClassId) → codes ≡ chosen b ts other → list_weight codes ≤ list_weight ts + part_weight other
unfolding list_weight part_weight
chosen_weighs true ts codes other e = rw e (omega arith)
chosen_weighs false ts codes left_out e = rw e (omega arith)
chosen_weighs false ts codes (written es) e = rw e (omega arith)

-- expressions that begin without a unit
pub chain_weighs : (f : CodeForm) (at : Pos) (first first1 : Code) (links links1 : List CodeLink) → f ≡ form.Chain first links → first1 ≡ first → links1 ≡ links
    → weight (form_view f at) ≡ suc (weight (view first1) + suc (links_weight (links_view links1)))
unfolding weight
chain_weighs f at first first1 links links1 is e l = rw (is, chain_view first links at, e, l) refl

pub sends_weighs : (f : CodeForm) (at : Pos) (first first1 : Code) (sendings sendings1 : List CodeSending) → f ≡ form.Sends first sendings → first1 ≡ first → sendings1 ≡ sendings
    → weight (form_view f at) ≡ suc (weight (view first1) + suc (sendings_weight (sendings_view sendings1)))
unfolding weight
sends_weighs f at first first1 sendings sendings1 is e l = rw (is, sends_view first sendings at, e, l) refl

pub code_weighs : (c : Code) → weight (view c) ≡ weight (form_view c.form c.pos)
code_weighs c = ap weight (code_is c)

-- a value that is given weighs nothing
pub given_weighs : (v : Result Value Stop) (result : Result Control Stop) → result ≡ given v → IfOk result (λ c. control_weight c ≡ 0)
given_weighs (Ok y) result e = rw e refl
given_weighs (Err stop) result e = rw e tt

-- a unit is counted
pub counted_falls : (result : Result Control Stop) (u w u1 : ℕ) (w1 : Control → ℕ) → OnOk result (u1 < u) → IfOk result (λ c. Falls u w u1 (w1 c))
counted_falls (Ok c) u w u1 w1 h = inl h
counted_falls (Err stop) u w u1 w1 h = tt

pub counted_no_more : (result : Result Control Stop) (u u1 u2 w : ℕ) (w1 : Control → ℕ) → u1 < u → OnOk result (u2 < u1) → IfOk result (λ c. NoMore u w u2 (w1 c))
counted_no_more (Ok c) u u1 u2 w w1 less h = inl (omega (arith, less, h))
counted_no_more (Err stop) u u1 u2 w w1 less h = tt

-- what follows one that was counted
pub no_more_falls : (u u1 w w1 u2 w2 : ℕ) → u1 < u → NoMore u1 w u2 w2 → Falls u w1 u2 w2
no_more_falls u u1 w w1 u2 w2 less (inl h) = inl (omega (arith, less, h))
no_more_falls u u1 w w1 u2 w2 less (inr h) = inl (omega (arith, less, h.0))

pub no_more_units : (result : Result Control Stop) (u u1 w : ℕ) (w1 : Control → ℕ) → IfOk result (λ c. NoMore u w u1 (w1 c)) → OnOk result (u1 ≤ u)
no_more_units (Ok c) u u1 w w1 (inl h) = omega (arith, h)
no_more_units (Ok c) u u1 w w1 (inr h) = omega (arith, h.0)
no_more_units (Err stop) u u1 w w1 h = tt

pub no_more_below : (u w w1 u1 w2 : ℕ) → w1 ≤ w → NoMore u w1 u1 w2 → NoMore u w u1 w2
no_more_below u w w1 u1 w2 less (inl h) = inl h
no_more_below u w w1 u1 w2 less (inr h) = inr (h.0, omega (arith, h.1, less))

pub counted_then : (result : Result Control Stop) (u u1 u2 : ℕ) → u ≡ suc u1 → OnOk result (u2 ≤ u1) → OnOk result (u2 < u)
counted_then (Ok c) u u1 u2 e h = omega (arith, e, h)
counted_then (Err stop) u u1 u2 e h = tt

-- a task is resumed with no more than it weighs
pub resumed_falls : (result : Result Control Stop) (task : Task) (u u1 n : ℕ) (ks ks1 : List Task) → task_weight task ≡ suc n → IfOk result (λ c. NoMore u (n + tasks_weight ks) u1 (load c ks1))
    → IfOk result (λ c. Falls u (task_weight task + tasks_weight ks) u1 (load c ks1))
resumed_falls (Ok c) task u u1 n ks ks1 e (inl h) = inl h
resumed_falls (Ok c) task u u1 n ks ks1 e (inr h) = inr (h.0, omega (arith, e, h.1))
resumed_falls (Err stop) task u u1 n ks ks1 e h = tt

-- a task is resumed without one
pub lighter : (result : Result Control Stop) (task : Task) (u n : ℕ) (ks ks1 : List Task) → task_weight task ≡ suc n → IfOk result (λ c. load c ks1 ≤ n + tasks_weight ks)
    → IfOk result (λ c. Falls u (task_weight task + tasks_weight ks) u (load c ks1))
lighter (Ok c) task u n ks ks1 e h = inr (refl, omega (arith, e, h))
lighter (Err stop) task u n ks ks1 e h = tt

pub given_lighter : (result : Result Control Stop) (task : Task) (u : ℕ) (ks : List Task) → task_weight task ≡ 1 → IfOk result (λ c. control_weight c ≡ 0)
    → IfOk result (λ c. Falls u (task_weight task + tasks_weight ks) u (load c ks))
given_lighter (Ok c) task u ks e h = inr (refl, omega (arith, e, h))
given_lighter (Err stop) task u ks e h = tt

-- beside what waits
pub falls_beside : (u w u1 w1 v x : ℕ) → x ≡ w + v → Falls u w u1 w1 → Falls u x u1 (w1 + v)
falls_beside u w u1 w1 v x e (inl h) = inl h
falls_beside u w u1 w1 v x e (inr h) = inr (h.0, omega (arith, h.1, e))

pub went_falls : (control : Result Control Stop) (result : Result Progress Stop) (P : Control → Type 0) → result ≡ went_on control → IfOk control P → IfOk result (WhileOn P)
went_falls (Ok c) result P e h = rw e h
went_falls (Err stop) result P e h = rw e tt

pub on_weaker : (p : Progress) (P Q : Control → Type 0) → ((c : Control) → P c → Q c) → WhileOn P p → WhileOn Q p
on_weaker (progress.On c) P Q weaker h = weaker c h
on_weaker (progress.Over f) P Q weaker h = tt
