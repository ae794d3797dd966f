-- What is found, of what an evaluation comes to.
use Rattle.std.proofs.Common.{◌≡◌, ℕ, List, [], Result, Ok, Err, sym, ap, ◌∙◌, subst}
use Rattle.std.specs.Prelude.{OnErr}
use Rattle.std.proofs.Math.Logic.{∥∥₁_elim}
use base.Stored.{Coded-set}
use Rattle.pz_classes_code.specs.pz_syntax.Classes.{ModelTree}
use Rattle.pz_classes_code.specs.pz_value.declared.value.Value.{Value}
use Rattle.pz_classes_code.specs.CodeView.{Tree}
use Rattle.pz_copy.specs.pz_state.States.{StateView}
use Rattle.pz_copy.specs.pz_state.Marks.{Seen, marked, undone, undone_from, kept, older, IsLatest, point_of_first}
use Rattle.pz_copy.specs.pz_state.contracts.state.State as state_contract
use Rattle.pz_eval_machine.specs.pz_eval_rules.declared.allowance.Allowance.{Allowance}
use Rattle.pz_eval_machine.specs.pz_eval_rules.declared.outcome.Outcome.{Outcome}
use Rattle.pz_eval_machine.specs.pz_eval_rules.declared.outcome.Outcome.TheVariants as outcome
use Rattle.pz_eval_machine.specs.pz_eval_rules.declared.outcome.Listed.{Listed}
use Rattle.pz_eval_machine.specs.pz_eval_rules.declared.outcome.Listed.TheVariants as listed
use Rattle.pz_eval_machine.specs.pz_eval_rules.contracts.outcome.Outcome as outcome_contract
use Rattle.pz_eval_machine.specs.pz_eval_rules.contracts.outcome.Listed as listed_contract
use Rattle.pz_eval_machine.specs.pz_eval_rules.Memories.{Memory}
use Rattle.pz_eval_machine.specs.pz_eval_rules.Steps.{Codes}
use Rattle.pz_eval_machine.specs.pz_eval_rules.Outcomes.{outside, Finds, FindsAll}
use Rattle.pz_eval_machine.specs.pz_eval_rules.devices.Computed.{Reached, done}
use Rattle.pz_eval_machine.specs.pz_eval_rules.devices.Laws.{ComputedIsFound, ComputedListIsFound}
use Rattle.pz_eval_machine.specs.pz_eval_rules.devices.Outcomes.{reached_value, reached_list, outcome_of, listed_of, state_after}
use Rattle.pz_eval_machine.specs.pz_eval_operations.declared.stop.Stop.{Stop}
use Rattle.pz_eval_machine.specs.pz_eval_operations.declared.stop.Stop.TheVariants as stop
use Rattle.pz_eval_machine.specs.declared.control.Finish.{Finish}
use Rattle.pz_eval_machine.specs.declared.control.Finish.TheVariants as finish
use Rattle.pz_eval_machine.specs.devices.Steps.{Stops, finished}
use Rattle.pz_eval.specs.devices.Lists.{Gathers}
use Rattle.pz_eval_machine.specs.devices.Within.{FinishWithin}
use Rattle.pz_eval.specs.Promises.{UnlessValue, UnlessValues, NamesWithin, NameWithin}
use Rattle.pz_eval.specs.devices.Found.{found_value, IsOutcomeOf, IsListedOf}

-- of an expression, the outcome and the state afterwards
abbrev pub Leaves : Outcome → StateView → StateView → Reached Value → Type 0
Leaves o s s1 x = (outcome_of x ≡ o) × (state_after s x ≡ s1)

pub finish_leaves : (f : Finish) (o : Outcome) (s : StateView) (m : Memory) (r : ℕ) (x : Reached Value) → o ≡ found_value f → x ≡ done (finished f m) r → Leaves o s m.state x
finish_leaves (finish.Value y) o s m r x e h = (ap outcome_of h ∙ sym e, ap (state_after s) h)
finish_leaves (finish.Return y) o s m r x e h = (ap outcome_of h ∙ sym e, ap (state_after s) h)

pub stop_leaves : (stop : Stop) (o : Outcome) (s : StateView) (r : ℕ) (x : Reached Value) → IsOutcomeOf stop o → Stops stop x r → Leaves o s s x
stop_leaves stop.NoMemory o s r x e h = absurd e
stop_leaves stop.Spent o s r x e h = (ap outcome_of h ∙ sym e, ap (state_after s) h)
stop_leaves (stop.Fault kind at) o s r x e h = (ap outcome_of h ∙ sym e, ap (state_after s) h)

-- the same of a list
abbrev pub LeavesAll : Listed → StateView → StateView → Reached (List Value) → Type 0
LeavesAll o s s1 x = (listed_of x ≡ o) × (state_after s x ≡ s1)

pub stop_leaves_all : (stop : Stop) (o : Listed) (s s1 : StateView) (r : ℕ) (x : Reached (List Value)) → IsListedOf stop o → Gathers (Err stop) s1 r x → LeavesAll o s s x
stop_leaves_all stop.NoMemory o s s1 r x e h = absurd e
stop_leaves_all stop.Spent o s s1 r x e h = (ap listed_of h ∙ sym e, ap (state_after s) h)
stop_leaves_all (stop.Fault kind at) o s s1 r x e h = (ap listed_of h ∙ sym e, ap (state_after s) h)

-- Equations hold of what is a bare fact.
merely_state : {A : Type 0} (known : ∥ A ∥₁) (s s1 : StateView) → (A → s ≡ s1) → s ≡ s1
merely_state known s s1 is =
    ap (λ (t : Seen). t.held) (∥∥₁_elim known (Coded-set state_contract.the_row.coded (record { held = s; marks = [] }) (record { held = s1; marks = [] })) (λ k. ap (λ (t : StateView). record { held = t; marks = [] }) (is k)))

pub found_of : {A : Type 0} (law : ComputedIsFound) (known : ∥ A ∥₁) (model : ModelTree) (now frame : ℕ) (s s1 : StateView) (t : Tree) (allowed : Allowance) (o : Outcome)
    → (A → Leaves o s s1 (reached_value model now frame s t allowed)) → Finds model now frame s t allowed o s1
found_of law known model now frame s s1 t allowed o leaves =
    let o_is : outcome_of (reached_value model now frame s t allowed) ≡ o = ∥∥₁_elim known (Coded-set outcome_contract.the_row.coded (outcome_of (reached_value model now frame s t allowed)) o) (λ k. (leaves k).0) in
    let s_is : state_after s (reached_value model now frame s t allowed) ≡ s1 = merely_state known (state_after s (reached_value model now frame s t allowed)) s1 (λ k. (leaves k).1) in
    subst (λ (u : StateView). Finds model now frame s t allowed o u) s_is
    (subst (λ (u : Outcome). Finds model now frame s t allowed u (state_after s (reached_value model now frame s t allowed))) o_is (law model now frame s t allowed))

pub found_all : {A : Type 0} (law : ComputedListIsFound) (known : ∥ A ∥₁) (model : ModelTree) (now frame : ℕ) (s s1 : StateView) (ts : Codes) (allowed : Allowance) (o : Listed)
    → (A → LeavesAll o s s1 (reached_list model now frame s ts allowed)) → FindsAll model now frame s ts allowed o s1
found_all law known model now frame s s1 ts allowed o leaves =
    let o_is : listed_of (reached_list model now frame s ts allowed) ≡ o = ∥∥₁_elim known (Coded-set listed_contract.the_row.coded (listed_of (reached_list model now frame s ts allowed)) o) (λ k. (leaves k).0) in
    let s_is : state_after s (reached_list model now frame s ts allowed) ≡ s1 = merely_state known (state_after s (reached_list model now frame s ts allowed)) s1 (λ k. (leaves k).1) in
    subst (λ (u : StateView). FindsAll model now frame s ts allowed o u) s_is
    (subst (λ (u : Listed). FindsAll model now frame s ts allowed u (state_after s (reached_list model now frame s ts allowed))) o_is (law model now frame s ts allowed))

pub value_found : {A : Type 0} (law : ComputedIsFound) (known : ∥ A ∥₁) (model : ModelTree) (now frame : ℕ) (t : Tree) (allowed : Allowance) (s0 s1 s2 s3 : StateView) (f : Finish) (o : Outcome) (r : ℕ)
    → s1 ≡ s0 → s3 ≡ s2 → o ≡ found_value f → (A → reached_value model now frame s1 t allowed ≡ done (finished f (outside s2)) r) → Finds model now frame s0 t allowed o s3
value_found law known model now frame t allowed s0 s1 s2 s3 f o r e01 e32 o_is comes =
    found_of law known model now frame s0 s3 t allowed o (λ k. finish_leaves f o s0 (outside s3) r (reached_value model now frame s0 t allowed) o_is
    (sym (ap (λ (u : StateView). reached_value model now frame u t allowed) e01) ∙ comes k ∙ ap (λ (u : StateView). done (finished f (outside u)) r) (sym e32)))

pub stop_found : {A : Type 0} (law : ComputedIsFound) (known : ∥ A ∥₁) (model : ModelTree) (now frame : ℕ) (t : Tree) (allowed : Allowance) (s0 s1 s3 : StateView) (stop : Stop) (o : Outcome) (r : ℕ)
    → s1 ≡ s0 → s3 ≡ s0 → IsOutcomeOf stop o → (A → Stops stop (reached_value model now frame s1 t allowed) r) → Finds model now frame s0 t allowed o s3
stop_found law known model now frame t allowed s0 s1 s3 stop o r e01 e30 is comes =
    found_of law known model now frame s0 s3 t allowed o (λ k.
    let leaves = stop_leaves stop o s0 r (reached_value model now frame s0 t allowed) is (subst (λ (u : StateView). Stops stop (reached_value model now frame u t allowed) r) e01 (comes k)) in
    (leaves.0, leaves.1 ∙ sym e30))

pub values_found : {A : Type 0} (law : ComputedListIsFound) (known : ∥ A ∥₁) (model : ModelTree) (now frame : ℕ) (ts : Codes) (allowed : Allowance) (s0 s1 s2 s3 : StateView) (ys : List Value) (r : ℕ)
    → s1 ≡ s0 → s3 ≡ s2 → (A → Gathers (Ok ys) s2 r (reached_list model now frame s1 ts allowed)) → FindsAll model now frame s0 ts allowed (listed.Values ys) s3
values_found law known model now frame ts allowed s0 s1 s2 s3 ys r e01 e32 comes =
    found_all law known model now frame s0 s3 ts allowed (listed.Values ys) (λ k.
    let gathers = subst (λ (u : StateView). Gathers (Ok ys) s2 r (reached_list model now frame u ts allowed)) e01 (comes k) in
    (gathers.0, gathers.1 s0 ∙ sym e32))

pub list_stop_found : {A : Type 0} (law : ComputedListIsFound) (known : ∥ A ∥₁) (model : ModelTree) (now frame : ℕ) (ts : Codes) (allowed : Allowance) (s0 s1 s2 s3 : StateView) (stop : Stop) (o : Listed) (r : ℕ)
    → s1 ≡ s0 → s3 ≡ s0 → IsListedOf stop o → (A → Gathers (Err stop) s2 r (reached_list model now frame s1 ts allowed)) → FindsAll model now frame s0 ts allowed o s3
list_stop_found law known model now frame ts allowed s0 s1 s2 s3 stop o r e01 e30 is comes =
    found_all law known model now frame s0 s3 ts allowed o (λ k.
    let leaves = stop_leaves_all stop o s0 s2 r (reached_list model now frame s0 ts allowed) is (subst (λ (u : StateView). Gathers (Err stop) s2 r (reached_list model now frame u ts allowed)) e01 (comes k)) in
    (leaves.0, leaves.1 ∙ sym e30))

pub gathers_is : (result : Result (List Value) Stop) (x : Result (List Value) Stop) (s : StateView) (r : ℕ) (all : Reached (List Value)) → result ≡ x → Gathers result s r all → Gathers x s r all
gathers_is result x s r all e h = subst (λ (y : Result (List Value) Stop). Gathers y s r all) e h

-- a mark is open meanwhile
pub still_marked : (s0 s1 s2 : Seen) (point : ℕ) → s1 ≡ marked s0 point → s2.marks ≡ s1.marks → s2.marks ≡ (marked s0 point).marks
still_marked s0 s1 s2 point e h = h ∙ ap (λ (t : Seen). t.marks) e

pub is_latest : (s0 s1 s2 : Seen) (point : ℕ) → s1 ≡ marked s0 point → s2.marks ≡ s1.marks → IsLatest s2 point
is_latest s0 s1 s2 point e h = ap point_of_first (still_marked s0 s1 s2 point e h)

pub is_back : (s0 s1 s2 s3 : Seen) (point : ℕ) → s1 ≡ marked s0 point → s2.marks ≡ s1.marks → s3 ≡ undone s2 → s3 ≡ s0
is_back s0 s1 s2 s3 point e h g = g ∙ ap (λ ms. undone_from ms s2) (still_marked s0 s1 s2 point e h)

pub marks_kept : (s0 s1 s2 s3 : Seen) (point : ℕ) → s1 ≡ marked s0 point → s2.marks ≡ s1.marks → s3 ≡ kept s2 → s3.marks ≡ s0.marks
marks_kept s0 s1 s2 s3 point e h g = ap (λ (t : Seen). t.marks) g ∙ ap older (still_marked s0 s1 s2 point e h)

-- what is promised whatever the model
pub finish_within : (f : Finish) (o : Outcome) (count : ℕ) → o ≡ found_value f → FinishWithin count f → NamesWithin count o
finish_within (finish.Value y) o count e h = rw e h
finish_within (finish.Return y) o count e h = rw e h

pub value_kept : (P : Type 0) (f : Finish) (o : Outcome) → o ≡ found_value f → UnlessValue P o
value_kept P (finish.Value y) o e = rw e tt
value_kept P (finish.Return y) o e = rw e tt

pub stop_within : (stop : Stop) (o : Outcome) (count : ℕ) → IsOutcomeOf stop o → NamesWithin count o
stop_within stop.NoMemory o count e = absurd e
stop_within stop.Spent o count e = rw e tt
stop_within (stop.Fault kind at) o count e = rw e tt

pub same_kept : (P : Type 0) (o : Outcome) → P → UnlessValue P o
same_kept P (outcome.Value y) h = tt
same_kept P (outcome.Fault kind at) h = h
same_kept P outcome.Spent h = h

pub stop_within_all : (stop : Stop) (o : Listed) (count : ℕ) → IsListedOf stop o → NameWithin count o
stop_within_all stop.NoMemory o count e = absurd e
stop_within_all stop.Spent o count e = rw e tt
stop_within_all (stop.Fault kind at) o count e = rw e tt

pub same_kept_all : (P : Type 0) (o : Listed) → P → UnlessValues P o
same_kept_all P (listed.Values ys) h = tt
same_kept_all P (listed.Fault kind at) h = h
same_kept_all P listed.Spent h = h

pub on_err : {T E P : Type 0} (result : Result T E) → P → OnErr result P
on_err (Ok x) h = tt
on_err (Err e) h = h
