-- A state changes only where a value is answered, and when an answer is Other.
use Rattle.std.proofs.Common.{◌≡◌, ℕ, List, Bool, true, false, Option, None, Some, Ok, Err, Result, refl, ap, ◌∙◌}
use Rattle.std.specs.Prelude.{◌↔◌, if◌then◌else◌, IfOk, OnOk}
use Rattle.pz_state.specs.pz_value.declared.value.Value.{Value}
use Rattle.pz_state.specs.pz_value.declared.value.Value.TheVariants as value
use Rattle.pz_state.specs.States.{StateView, object}
use Rattle.pz_state.specs.Marks.{Seen, changed}
use Rattle.pz_prims.specs.declared.answer.Prim.{Prim}
use Rattle.pz_prims.specs.declared.answer.Prim.TheVariants as prim
use Rattle.pz_prims.specs.Rows.{Answer, answered}
use Rattle.pz_prims.specs.EveryValue.{every_value}
use Rattle.pz_prims.specs.Arrays.{Changed, arrays}
use Rattle.pz_prims.specs.Table.{Outcome, outcome, of_itself, of_array, told, understood, is_array}
use Rattle.pz_prims.specs.Promises.{UnlessValue, IsForeign, IsOther}
use Rattle.pz_prims.proofs.Outcomes.{by_found, outcome-by_found}

unless : (P : Type 0) (p : Prim) → P → UnlessValue P p
unless P (prim.Value v) h = tt
unless P (prim.Fault f) h = h
unless P prim.Other h = h

unless_then : (P Q : Type 0) (p : Prim) → (P → Q) → UnlessValue P p → UnlessValue Q p
unless_then P Q (prim.Value v) f h = tt
unless_then P Q (prim.Fault fault) f h = f h
unless_then P Q prim.Other f h = f h

abbrev Keeps : StateView → Outcome → Type 0
Keeps s o = UnlessValue (o.state ≡ s) o.answer

keeps_same : (s : StateView) (p : Prim) → Keeps s (record { answer = p; state = s })
keeps_same s p = unless (s ≡ s) p refl

keeps_array : (s : StateView) (answer : Option (Answer Changed)) → Keeps s (of_array s answer)
keeps_array s None = refl
keeps_array s (Some (Ok c)) = tt
keeps_array s (Some (Err fault)) = refl

keeps_either : (s : StateView) (test : Bool) (x y : Outcome) → Keeps s x → Keeps s y → Keeps s (if test then x else y)
keeps_either s true x y h k = h
keeps_either s false x y h k = k

keeps_itself : (s : StateView) (v : Value) (selector : List ℕ) (args : List Value) → Keeps s (of_itself s v selector args)
keeps_itself s value.Nil selector args = refl
keeps_itself s (value.Bool b) selector args = keeps_same s _
keeps_itself s (value.Int n) selector args = keeps_same s _
keeps_itself s (value.Char c) selector args = keeps_same s _
keeps_itself s (value.Str t) selector args = keeps_same s _
keeps_itself s (value.Ref r) selector args = keeps_either s (is_array (object s r).class) _ _ (keeps_array s (answered (arrays s r) selector args)) refl

keeps_found : (s : StateView) (v : Value) (selector : List ℕ) (args : List Value) (found : Option (Answer Value)) → Keeps s (by_found s v selector args found)
keeps_found s v selector args None = keeps_itself s v selector args
keeps_found s v selector args (Some answer) = keeps_same s (told answer)

keeps : (s : StateView) (v : Value) (selector : List ℕ) (args : List Value) → Keeps s (outcome s v selector args)
keeps s v selector args = rw (outcome-by_found s v selector args _ refl) (keeps_found s v selector args (answered (every_value v) selector args))

-- the clause on a call, from those on its answer and on the state
pub kept_by : {E : Type 0} (result : Result Prim E) (old new : Seen) (v : Value) (selector : List ℕ) (args : List Value) → IfOk result (λ p. p ≡ (outcome old.held v selector args).answer) → OnOk result (new ≡ changed old (outcome old.held v selector args).state) → IfOk result (UnlessValue (new ≡ old))
kept_by (Ok p) old new v selector args is now =
    let o = outcome old.held v selector args in
    let same : o.state ≡ old.held → new ≡ old = λ stays. now ∙ ap (changed old) stays in
    rw is (unless_then (o.state ≡ old.held) (new ≡ old) o.answer same (keeps old.held v selector args))
kept_by (Err e) old new v selector args is now = tt

understood_is_not_other : (answer : Option (Answer Value)) → understood answer ≡ prim.Other → ⊥
understood_is_not_other None e = cc
understood_is_not_other (Some (Ok v)) e = cc
understood_is_not_other (Some (Err fault)) e = cc

foreign_either : (s : StateView) (test : Bool) (x : Outcome) → (x.answer ≡ prim.Other → ⊥) → ((if test then x else record { answer = prim.Other; state = s }).answer ≡ prim.Other) ↔ (test ≡ false)
foreign_either s true x apart = (λ e. absurd (apart e), λ e. cc)
foreign_either s false x apart = (λ e. refl, λ e. refl)

foreign_itself : (s : StateView) (v : Value) (selector : List ℕ) (args : List Value) → ((of_itself s v selector args).answer ≡ prim.Other) ↔ IsForeign s v
foreign_itself s value.Nil selector args = (λ e. cc, λ h. absurd h)
foreign_itself s (value.Bool b) selector args = (λ e. understood_is_not_other _ e, λ h. absurd h)
foreign_itself s (value.Int n) selector args = (λ e. understood_is_not_other _ e, λ h. absurd h)
foreign_itself s (value.Char c) selector args = (λ e. understood_is_not_other _ e, λ h. absurd h)
foreign_itself s (value.Str t) selector args = (λ e. understood_is_not_other _ e, λ h. absurd h)
foreign_itself s (value.Ref r) selector args = foreign_either s (is_array (object s r).class) _ (λ e. understood_is_not_other _ e)

other_found : (s : StateView) (v : Value) (selector : List ℕ) (args : List Value) (found : Option (Answer Value)) → ((by_found s v selector args found).answer ≡ prim.Other) ↔ (IsForeign s v × (found ≡ None))
other_found s v selector args None =
    let h = foreign_itself s v selector args in (λ e. (h.0 e, refl), λ w. h.1 w.0)
other_found s v selector args (Some answer) = (λ e. absurd (understood_is_not_other (Some answer) e), λ w. absurd (let e : Some answer ≡ None = w.1 in cc))

other : (s : StateView) (v : Value) (selector : List ℕ) (args : List Value) → ((outcome s v selector args).answer ≡ prim.Other) ↔ IsOther s v selector args
other s v selector args = rw (outcome-by_found s v selector args _ refl) (other_found s v selector args (answered (every_value v) selector args))

pub other_by : {E : Type 0} (result : Result Prim E) (s : StateView) (v : Value) (selector : List ℕ) (args : List Value) → IfOk result (λ p. p ≡ (outcome s v selector args).answer) → IfOk result (λ p. (p ≡ prim.Other) ↔ IsOther s v selector args)
other_by (Ok p) s v selector args is = rw is (other s v selector args)
other_by (Err e) s v selector args is = tt
