-- What is computed is what is found, and nothing else is.
use Rattle.std.proofs.Common.{◌≡◌, ℕ, ◌≤◌, ◌-◌, List, [], refl, sym, ◌∙◌, arith}
use Rattle.pz_classes_rules.specs.pz_syntax.Classes.{ModelTree}
use Rattle.pz_state.specs.pz_value.declared.value.Value.{Value}
use Rattle.pz_classes_rules.specs.pz_classes_code.CodeView.{Tree}
use Rattle.pz_state.specs.States.{StateView}
use Rattle.pz_eval_rules.specs.declared.allowance.Allowance.{Allowance}
use Rattle.pz_eval_rules.specs.declared.outcome.Outcome.{Outcome}
use Rattle.pz_eval_rules.specs.declared.outcome.Outcome.TheVariants as outcome
use Rattle.pz_eval_rules.specs.declared.outcome.Listed.{Listed}
use Rattle.pz_eval_rules.specs.declared.outcome.Listed.TheVariants as listed
use Rattle.pz_eval_rules.specs.Memories.{Memory, in_process}
use Rattle.pz_eval_rules.specs.Answers.{ends, fault, Answer, gives, stops, ended, ended_list}
use Rattle.pz_eval_rules.specs.Steps.{Codes}
use Rattle.pz_eval_rules.specs.Laws.{SomeOutcome, SomeListed}
use Rattle.pz_eval_rules.specs.Outcomes.{Within, outside, ComesTo, AllComeTo, Finds, a_value, a_fault, too_much, FindsAll, all_values, one_fault, all_too_much}
use Rattle.pz_eval_rules.specs.devices.Computed.{Reached, done, spent}
use Rattle.pz_eval_rules.specs.devices.Outcomes.{reached_value, reached_list, outcome_of, listed_of, state_after}
use Rattle.pz_eval_rules.proofs.Complete.{evaluates_done, arguments_done}
use Rattle.pz_eval_rules.proofs.Sound.{Derived, Each, reached, nothing, evaluated_sound, list_sound}

-- A computation that reaches exactly what is derivable within the allowance.
record Exact {A : Type 0} (comes_to : Answer A → ℕ → ℕ → Type 0) (allowed : Allowance) (x : Reached A) : Type 0 where
  pub sound : Each (λ a r. Derived allowed.depth allowed.units r (comes_to a)) x
  pub complete : (a : Answer A) → Within comes_to allowed a → (r : ℕ) × (x ≡ done a r)

value_exact : (model : ModelTree) (now frame : ℕ) (s : StateView) (t : Tree) (allowed : Allowance) → Exact (ComesTo model now frame s t) allowed (reached_value model now frame s t allowed)
value_exact model now frame s t allowed = record {
  sound = evaluated_sound model now allowed.depth (in_process frame) t (outside s) allowed.units;
  complete = λ a w. (allowed.units - w.units, evaluates_done w.derivation allowed.depth allowed.units (allowed.units - w.units) w.deep (let p = w.paid in omega arith));
}

list_exact : (model : ModelTree) (now frame : ℕ) (s : StateView) (ts : Codes) (allowed : Allowance) → Exact (AllComeTo model now frame s ts) allowed (reached_list model now frame s ts allowed)
list_exact model now frame s ts allowed = record {
  sound = list_sound model now allowed.depth (in_process frame) [] ts (outside s) allowed.units;
  complete = λ a w. (allowed.units - w.units, arguments_done w.derivation allowed.depth allowed.units (allowed.units - w.units) w.deep (let p = w.paid in omega arith));
}

module _ {A : Type 0} {comes_to : Answer A → ℕ → ℕ → Type 0} {allowed : Allowance} where
  within : {a : Answer A} {r : ℕ} → Derived allowed.depth allowed.units r (comes_to a) → Within comes_to allowed a
  within h = record { units = h.units; depth = h.depth; derivation = h.proof; paid = let e = h.paid in omega arith; deep = h.deep }

  -- where nothing is reached, nothing is derivable
  none_within : {x : Reached A} → Exact comes_to allowed x → x ≡ spent → (a : Answer A) → Within comes_to allowed a → ⊥
  none_within exact e a w = let k = exact.complete a w in cc

  spent_by : {x : Reached A} → ((a : Answer A) → Within comes_to allowed a → ⊥) → Each (λ a r. Derived allowed.depth allowed.units r (comes_to a)) x → x ≡ spent
  spent_by nowhere (reached {a = a} h) = absurd (nowhere a (within h))
  spent_by nowhere nothing = refl

widened : {A : Type 0} {comes_to : Answer A → ℕ → ℕ → Type 0} {less enough : Allowance} {a : Answer A} → less.units ≤ enough.units → less.depth ≤ enough.depth → Within comes_to less a → Within comes_to enough a
widened u d w = record { units = w.units; depth = w.depth; derivation = w.derivation; paid = let p = w.paid in omega arith; deep = let p = w.deep in omega arith }

-- Values

module _ (model : ModelTree) (now frame : ℕ) (s : StateView) (t : Tree) (allowed : Allowance) where
  found_by : {x : Reached Value} → Exact (ComesTo model now frame s t) allowed x → Each (λ a r. Derived allowed.depth allowed.units r (ComesTo model now frame s t a)) x → Finds model now frame s t allowed (outcome_of x) (state_after s x)
  found_by exact (reached {a = gives y m} h) = a_value (within h) refl
  found_by exact (reached {a = stops (ends y m)} h) = a_value (within h) refl
  found_by exact (reached {a = stops (fault kind at)} h) = a_fault (within h)
  found_by exact nothing = too_much (none_within exact refl)

  -- what is computed is found
  pub found : Finds model now frame s t allowed (outcome_of (reached_value model now frame s t allowed)) (state_after s (reached_value model now frame s t allowed))
  found = let exact = value_exact model now frame s t allowed in found_by exact exact.sound

  value_only : {x : Reached Value} (a : Answer Value) (r : ℕ) (y : Value) (m : Memory) → x ≡ done a r → ended [] a ≡ gives y m → (outcome.Value y ≡ outcome_of x) × (m.state ≡ state_after s x)
  value_only (gives z m1) r y m e q = (cc, cc)
  value_only (stops (ends z m1)) r y m e q = (cc, cc)
  value_only (stops (fault kind at)) r y m e q = absurd cc

  -- what is found is computed
  pub only_found : {o : Outcome} {s1 : StateView} → Finds model now frame s t allowed o s1 → (o ≡ outcome_of (reached_value model now frame s t allowed)) × (s1 ≡ state_after s (reached_value model now frame s t allowed))
  only_found (a_value {a = a} {y = y} {m = m} w q) = let k = (value_exact model now frame s t allowed).complete a w in value_only a k.0 y m k.1 q
  only_found (a_fault {kind = kind} {at = at} w) = let k = (value_exact model now frame s t allowed).complete (stops (fault kind at)) w in (rw k.1 refl, rw k.1 refl)
  only_found (too_much nowhere) = let k = spent_by nowhere (value_exact model now frame s t allowed).sound in (rw k refl, rw k refl)

pub more_finds : (model : ModelTree) (now frame : ℕ) (s : StateView) (t : Tree) (less enough : Allowance) (o : Outcome) (s1 : StateView) → less.units ≤ enough.units → less.depth ≤ enough.depth → (o ≡ outcome.Spent → ⊥)
    → Finds model now frame s t less o s1 → Finds model now frame s t enough o s1
more_finds model now frame s t less enough o s1 u d ne (a_value w q) = a_value (widened u d w) q
more_finds model now frame s t less enough o s1 u d ne (a_fault w) = a_fault (widened u d w)
more_finds model now frame s t less enough o s1 u d ne (too_much nowhere) = absurd (ne refl)

-- Lists

module _ (model : ModelTree) (now frame : ℕ) (s : StateView) (ts : Codes) (allowed : Allowance) where
  found_list_by : {x : Reached (List Value)} → Exact (AllComeTo model now frame s ts) allowed x → Each (λ a r. Derived allowed.depth allowed.units r (AllComeTo model now frame s ts a)) x → FindsAll model now frame s ts allowed (listed_of x) (state_after s x)
  found_list_by exact (reached {a = gives ys m} h) = all_values (within h) refl
  found_list_by exact (reached {a = stops (ends y m)} h) = all_values (within h) refl
  found_list_by exact (reached {a = stops (fault kind at)} h) = one_fault (within h)
  found_list_by exact nothing = all_too_much (none_within exact refl)

  pub found_list : FindsAll model now frame s ts allowed (listed_of (reached_list model now frame s ts allowed)) (state_after s (reached_list model now frame s ts allowed))
  found_list = let exact = list_exact model now frame s ts allowed in found_list_by exact exact.sound

  list_only : {x : Reached (List Value)} (a : Answer (List Value)) (r : ℕ) (ys : List Value) (m : Memory) → x ≡ done a r → ended_list a ≡ gives ys m → (listed.Values ys ≡ listed_of x) × (m.state ≡ state_after s x)
  list_only (gives zs m1) r ys m e q = (cc, cc)
  list_only (stops (ends z m1)) r ys m e q = (cc, cc)
  list_only (stops (fault kind at)) r ys m e q = absurd cc

  pub only_found_list : {o : Listed} {s1 : StateView} → FindsAll model now frame s ts allowed o s1 → (o ≡ listed_of (reached_list model now frame s ts allowed)) × (s1 ≡ state_after s (reached_list model now frame s ts allowed))
  only_found_list (all_values {a = a} {ys = ys} {m = m} w q) = let k = (list_exact model now frame s ts allowed).complete a w in list_only a k.0 ys m k.1 q
  only_found_list (one_fault {kind = kind} {at = at} w) = let k = (list_exact model now frame s ts allowed).complete (stops (fault kind at)) w in (rw k.1 refl, rw k.1 refl)
  only_found_list (all_too_much nowhere) = let k = spent_by nowhere (list_exact model now frame s ts allowed).sound in (rw k refl, rw k refl)

pub more_finds_list : (model : ModelTree) (now frame : ℕ) (s : StateView) (ts : Codes) (less enough : Allowance) (o : Listed) (s1 : StateView) → less.units ≤ enough.units → less.depth ≤ enough.depth → (o ≡ listed.Spent → ⊥)
    → FindsAll model now frame s ts less o s1 → FindsAll model now frame s ts enough o s1
more_finds_list model now frame s ts less enough o s1 u d ne (all_values w q) = all_values (widened u d w) q
more_finds_list model now frame s ts less enough o s1 u d ne (one_fault w) = one_fault (widened u d w)
more_finds_list model now frame s ts less enough o s1 u d ne (all_too_much nowhere) = absurd (ne refl)

-- The laws

pub each_has_an_outcome : (model : ModelTree) (now frame : ℕ) (s : StateView) (t : Tree) (allowed : Allowance) → (o : SomeOutcome) × Finds model now frame s t allowed o.outcome o.state
each_has_an_outcome model now frame s t allowed =
    (record { outcome = outcome_of (reached_value model now frame s t allowed); state = state_after s (reached_value model now frame s t allowed) }, found model now frame s t allowed)

pub has_one_outcome : (model : ModelTree) (now frame : ℕ) (s : StateView) (t : Tree) (allowed : Allowance) (o1 o2 : Outcome) (s1 s2 : StateView)
    → Finds model now frame s t allowed o1 s1 → Finds model now frame s t allowed o2 s2 → (o1 ≡ o2) × (s1 ≡ s2)
has_one_outcome model now frame s t allowed o1 o2 s1 s2 f g =
    let a = only_found model now frame s t allowed f in let b = only_found model now frame s t allowed g in (a.0 ∙ sym b.0, a.1 ∙ sym b.1)

pub each_list_has_an_outcome : (model : ModelTree) (now frame : ℕ) (s : StateView) (ts : Codes) (allowed : Allowance) → (o : SomeListed) × FindsAll model now frame s ts allowed o.listed o.state
each_list_has_an_outcome model now frame s ts allowed =
    (record { listed = listed_of (reached_list model now frame s ts allowed); state = state_after s (reached_list model now frame s ts allowed) }, found_list model now frame s ts allowed)

pub list_has_one_outcome : (model : ModelTree) (now frame : ℕ) (s : StateView) (ts : Codes) (allowed : Allowance) (o1 o2 : Listed) (s1 s2 : StateView)
    → FindsAll model now frame s ts allowed o1 s1 → FindsAll model now frame s ts allowed o2 s2 → (o1 ≡ o2) × (s1 ≡ s2)
list_has_one_outcome model now frame s ts allowed o1 o2 s1 s2 f g =
    let a = only_found_list model now frame s ts allowed f in let b = only_found_list model now frame s ts allowed g in (a.0 ∙ sym b.0, a.1 ∙ sym b.1)
