-- A write to what is not there changes nothing; no write makes or removes an object; a new object.
use Rattle.std.proofs.Common.{◌≡◌, ℕ, zero, suc, ◌<◌, ◌≤◌, List, [], ◌∷◌, length, lt-ltb, Some, Result, Ok, Err, refl, sym, ap, ◌∙◌, arith}
use Rattle.std.specs.Prelude.{OnOk, OnErr, slice_set}
use Rattle.pz_classes_code.specs.pz_syntax.declared.tokens.Pos.{Pos}
use Rattle.pz_classes_code.specs.pz_syntax.Classes.{ModelTree}
use Rattle.pz_classes_code.specs.pz_value.declared.value.ClassId.{ClassId}
use Rattle.pz_classes_code.specs.pz_value.declared.value.Value.{Value}
use Rattle.pz_classes_code.specs.pz_value.declared.value.Value.TheVariants.{Ref}
use Rattle.pz_state.specs.Objects.{ObjectView}
use Rattle.pz_state.specs.States.{StateView, at_object, object, made, set_item}
use Rattle.pz_state.specs.States.{object_limit}
use Rattle.pz_state.specs.Marks.{Seen, changed}
use Rattle.pz_classes.specs.pz_classes_rules.Members.{fields}
use Rattle.pz_eval_rules.specs.Answers.{gives}
use Rattle.pz_eval_rules.specs.Steps.{created}

pub set_past : (values : List Value) (i : ℕ) (y : Value) → length values ≤ i → slice_set values i y ≡ values
set_past [] i y past = refl
set_past (x ∷ xs) zero y past = absurd (omega arith)
set_past (x ∷ xs) (suc i) y past = ap (λ (vs : List Value). x ∷ vs) (set_past xs i y (omega arith))

no_object_in : (os : List ObjectView) (r : ℕ) (change : List Value → List Value) → length os ≤ r → at_object r change os ≡ os
no_object_in [] r change past = refl
no_object_in (o ∷ os) zero change past = absurd (omega arith)
no_object_in (o ∷ os) (suc r) change past = ap (λ (xs : List ObjectView). o ∷ xs) (no_object_in os r change (omega arith))

same_object_in : (os : List ObjectView) (r i : ℕ) (y : Value) → length (object (record { vars = []; frames = []; objects = os }) r).items ≤ i → at_object r (λ vs. slice_set vs i y) os ≡ os
same_object_in [] r i y past = refl
same_object_in (o ∷ os) zero i y past = ap (λ (vs : List Value). record { class = o.class; items = vs } ∷ os) (set_past o.items i y past)
same_object_in (o ∷ os) (suc r) i y past = ap (λ (xs : List ObjectView). o ∷ xs) (same_object_in os r i y past)

pub no_field_past : (s : StateView) (r i : ℕ) (y : Value) → length s.objects ≤ r → s ≡ set_item s r i y
no_field_past s r i y past = ap (λ (xs : List ObjectView). record s { objects = xs }) (sym (no_object_in s.objects r (λ vs. slice_set vs i y) past))

pub no_field : (s : StateView) (r i : ℕ) (y : Value) → length (object s r).items ≤ i → s ≡ set_item s r i y
no_field s r i y past = ap (λ (xs : List ObjectView). record s { objects = xs }) (sym (same_object_in s.objects r i y past))

-- no object goes by a write
pub as_many : (r : ℕ) (change : List Value → List Value) (os : List ObjectView) → length (at_object r change os) ≡ length os
as_many r change [] = refl
as_many zero change (o ∷ os) = refl
as_many (suc r) change (o ∷ os) = ap suc (as_many r change os)

pub count_kept : {E : Type 0} (result : Result Unit E) (s s1 : Seen) (h : StateView) → OnOk result (s1 ≡ changed s h) → OnErr result (s1 ≡ s)
    → length h.objects ≡ length s.held.objects → length s1.held.objects ≡ length s.held.objects
count_kept (Ok x) s s1 h ok err same = ap (λ (t : Seen). length t.held.objects) ok ∙ same
count_kept (Err e) s s1 h ok err same = ap (λ (t : Seen). length t.held.objects) err

pub created_as : (m : ModelTree) (class : ClassId) (at : Pos) (s s1 : Seen) (locals : List Value) (r n : ℕ) → length s.held.objects < object_limit → r ≡ length s.held.objects
    → n ≡ length (fields m class.0) → s1 ≡ changed s (made s.held class n)
    → created m class at (record { state = s.held; locals = locals }) ≡ gives (Ref r) (record { state = s1.held; locals = locals })
created_as m class at s s1 locals r n below r_is n_is s1_is = rw (lt-ltb (length s.held.objects) object_limit below, s1_is, r_is, n_is) refl
