-- The inputs and the locals of a frame, one after the other.
use Rattle.std.proofs.Common.{◌≡◌, ◌<◌, ◌≤◌, ◌+◌, ◌-◌, ◌⊎◌, inl, inr, min, ℕ, zero, suc, Bool, true, false, nat_eq, List, [], ◌∷◌, ◌++◌, length, take, drop, get_or, slice_set, refl, sym, subst, ap, ◌∙◌, arith}
use Rattle.std.specs.List.{All}
use Rattle.std.proofs.lemmas.List.Elements.{All-nil, All-cons, All-append}
use Rattle.std.proofs.lemmas.List.{set_past, drop_more, drop-set-lt, take_more, take_all, get_or-drop, length-drop}
use Rattle.std.proofs.lemmas.Option.{unwrap_or-slice_get}
use Rattle.std.proofs.lemmas.Bool.{cases_lt}
use Rattle.pz_classes_code.specs.pz_value.declared.value.Value.{Value}
use Rattle.pz_classes_code.specs.pz_value.declared.value.Value.TheVariants as value
use Rattle.pz_classes_code.specs.declared.slot.Slot.{Slot}
use Rattle.pz_classes_code.specs.declared.slot.Slot.TheVariants.{Local, Shared, Unknown}
use Rattle.pz_rules.specs.pz_state.States.{StateView, Frames, locals_of, locals, value_at, at_frame, set_variable, set_local}
use Rattle.pz_rules.specs.pz_state.References.{RefersWithin}
use Rattle.pz_rules.specs.pz_state.Marks.{Seen, changed}
use Rattle.pz_eval_binding.specs.Binding.{set_slot, set_slots, first_slots}

drop_past : {A : Type 0} (n : ℕ) (xs : List A) → length xs ≤ n → drop n xs ≡ []
drop_past zero [] past = refl
drop_past (suc n) [] past = refl
drop_past zero (x ∷ xs) past = absurd (omega (arith, past))
drop_past (suc n) (x ∷ xs) past = drop_past n xs (omega (arith, past))

-- one input further
pub one_input : (f : ℕ) (vs ws : List Value) (p : ℕ) (v : Value) (s t : Seen) (all : StateView) → p < length vs → v ≡ get_or vs p v → ws ≡ slice_set vs p value.Nil → t ≡ changed s (set_local s.held f p v)
    → set_slots f (first_slots p (drop p vs)) (drop p vs) s.held ≡ all → set_slots f (first_slots (p + 1) (drop (p + 1) ws)) (drop (p + 1) ws) t.held ≡ all
one_input f vs ws p v s t all within v_is emptied set so_far =
    let on : p + 1 ≡ suc p = omega arith in
    ap (λ (l : List Value). set_slots f (first_slots (p + 1) (drop (p + 1) l)) (drop (p + 1) l) t.held) emptied
    ∙ ap (λ (l : List Value). set_slots f (first_slots (p + 1) l) l t.held) (drop-set-lt (p + 1) vs p value.Nil (omega arith))
    ∙ ap (λ (z : Seen). set_slots f (first_slots (p + 1) (drop (p + 1) vs)) (drop (p + 1) vs) z.held) set
    ∙ ap (λ (n : ℕ). set_slots f (first_slots n (drop (p + 1) vs)) (drop (p + 1) vs) (set_local s.held f p v)) on
    ∙ sym (ap (λ (l : List Value). set_slots f (first_slots p l) l s.held) (drop_more vs p v within ∙ ap (λ (w : Value). w ∷ drop (p + 1) vs) (sym v_is)))
    ∙ so_far

pub inputs_over : (f : ℕ) (vs : List Value) (p : ℕ) (s : StateView) → length vs ≤ p → set_slots f (first_slots p (drop p vs)) (drop p vs) s ≡ s
inputs_over f vs p s past = ap (λ (l : List Value). set_slots f (first_slots p l) l s) (drop_past p vs past)

-- one local further
pub one_copied : (xs : List Value) (first count : ℕ) (old new : List Value) (v : Value) → count < length xs - first → v ≡ value_at xs (first + count)
    → new ≡ old ++ v ∷ [] → old ≡ take count (drop first xs) → new ≡ take (count + 1) (drop first xs)
one_copied xs first count old new v within is grown so_far =
    let inside : count < length (drop first xs) = rw (length-drop first xs) within in
    grown ∙ ap (λ (l : List Value). l ++ v ∷ []) so_far
    ∙ ap (λ (w : Value). take count (drop first xs) ++ w ∷ []) (is ∙ unwrap_or-slice_get xs (first + count) value.Nil ∙ sym (get_or-drop first xs count value.Nil))
    ∙ sym (take_more (drop first xs) count value.Nil inside)

pub all_copied : (xs : List Value) (first wanted n : ℕ) → n ≡ min (length xs - first) wanted → take n (drop first xs) ≡ take wanted (drop first xs)
all_copied xs first wanted n is = by (cases_lt wanted (length xs - first))
  where
    by : (wanted < length xs - first) ⊎ (length xs - first ≤ wanted) → take n (drop first xs) ≡ take wanted (drop first xs)
    by (inl less) = let same : n ≡ wanted = omega (arith, is, less) in ap (λ (m : ℕ). take m (drop first xs)) same
    by (inr more) =
        let whole : length (drop first xs) ≤ n = rw (length-drop first xs) (omega (arith, is, more)) in
        let over : length (drop first xs) ≤ wanted = rw (length-drop first xs) more in
        take_all n (drop first xs) whole ∙ sym (take_all wanted (drop first xs) over)

pub pushed_within : (n : ℕ) (old new : List Value) (v : Value) → new ≡ old ++ v ∷ [] → All (RefersWithin n) old → RefersWithin n v → All (RefersWithin n) new
pushed_within n old new v grown all one = subst (λ (l : List Value). All (RefersWithin n) l) (sym grown) (All-append (RefersWithin n) old (v ∷ []) all (All-cons (RefersWithin n) v [] one (All-nil (RefersWithin n))))

pub seen_is : (s o : Seen) (all : StateView) → s.held ≡ all → s.marks ≡ o.marks → s ≡ changed o all
seen_is s o all held marks = ap (λ (h : StateView). let z : Seen = record { held = h; marks = s.marks } in z) held ∙ ap (λ (m : List (ℕ × StateView)). let z : Seen = record { held = all; marks = m } in z) marks

-- more values than variables
pub taken_set : (f : ℕ) (xs : List Slot) (vs : List Value) (s : StateView) → set_slots f xs (take (length xs) vs) s ≡ set_slots f xs vs s
taken_set f [] vs s = refl
taken_set f (x ∷ xs) [] s = refl
taken_set f (x ∷ xs) (v ∷ vs) s = taken_set f xs vs (set_slot f x v s)
