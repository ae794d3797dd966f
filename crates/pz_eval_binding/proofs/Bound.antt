-- Values that are bound to variables, from left to right.
use Rattle.std.proofs.Common.{◌≡◌, ◌<◌, ◌≤◌, ◌+◌, ◌-◌, ◌⊎◌, inl, inr, min, ℕ, zero, suc, Bool, true, false, nat_eq, List, [], ◌∷◌, ◌++◌, length, take, drop, get_or, slice_set, refl, sym, subst, ap, ◌∙◌, arith}
use Rattle.std.specs.List.{All}
use Rattle.std.proofs.lemmas.List.Elements.{All-nil, All-cons, All-append}
use Rattle.std.proofs.lemmas.List.{set_past, drop_more, drop-set-lt, take_more, take_all, get_or-drop, length-drop}
use Rattle.std.proofs.lemmas.Option.{unwrap_or-slice_get}
use Rattle.std.proofs.lemmas.Bool.{cases_lt}
use Rattle.pz_classes_code.specs.pz_value.declared.value.Value.{Value}
use Rattle.pz_classes_code.specs.pz_value.declared.value.Value.TheVariants as value
use Rattle.pz_classes_code.specs.declared.slot.Slot.{Slot}
use Rattle.pz_classes_code.specs.declared.slot.Slot.TheVariants.{Local, Shared, Unknown}
use Rattle.pz_copy.specs.pz_state.States.{StateView, Frames, locals_of, locals, value_at, at_frame, set_variable, set_local}
use Rattle.pz_copy.specs.pz_state.References.{RefersWithin}
use Rattle.pz_copy.specs.pz_state.Marks.{Seen, changed}
use Rattle.pz_eval_binding.specs.Binding.{set_slot, set_slots, first_slots}

-- the objects stay
pub objects_kept : (f : ℕ) (x : Slot) (v : Value) (s : StateView) → (set_slot f x v s).objects ≡ s.objects
objects_kept f (Local i) v s = refl
objects_kept f (Shared i) v s = refl
objects_kept f Unknown v s = refl

pub none_left : (f : ℕ) (xs : List Slot) (s : StateView) → set_slots f xs [] s ≡ s
none_left f [] s = refl
none_left f (x ∷ xs) s = refl

drop_past : {A : Type 0} (n : ℕ) (xs : List A) → length xs ≤ n → drop n xs ≡ []
drop_past zero [] past = refl
drop_past (suc n) [] past = refl
drop_past zero (x ∷ xs) past = absurd (omega (arith, past))
drop_past (suc n) (x ∷ xs) past = drop_past n xs (omega (arith, past))

-- where the values, or the variables, are at their end
pub values_over : (f : ℕ) (xs : List Slot) (vs : List Value) (p : ℕ) (s : StateView) → length vs ≤ p → set_slots f (drop p xs) (drop p vs) s ≡ s
values_over f xs vs p s past = ap (λ (l : List Value). set_slots f (drop p xs) l s) (drop_past p vs past) ∙ none_left f (drop p xs) s

pub slots_over : (f : ℕ) (xs : List Slot) (vs : List Value) (p : ℕ) (s : StateView) → length xs ≤ p → set_slots f (drop p xs) vs s ≡ s
slots_over f xs vs p s past = ap (λ (l : List Slot). set_slots f l vs s) (drop_past p xs past)

-- one variable further
pub one_set : (f : ℕ) (xs : List Slot) (vs ws : List Value) (p : ℕ) (x : Slot) (v : Value) (s t : Seen) (all : StateView) → p < length xs → p < length vs
    → x ≡ get_or xs p x → v ≡ get_or vs p v → ws ≡ slice_set vs p value.Nil → t ≡ changed s (set_slot f x v s.held)
    → set_slots f (drop p xs) (drop p vs) s.held ≡ all → set_slots f (drop (p + 1) xs) (drop (p + 1) ws) t.held ≡ all
one_set f xs vs ws p x v s t all in_xs in_vs x_is v_is emptied set so_far =
    ap (λ (l : List Value). set_slots f (drop (p + 1) xs) (drop (p + 1) l) t.held) emptied
    ∙ ap (λ (l : List Value). set_slots f (drop (p + 1) xs) l t.held) (drop-set-lt (p + 1) vs p value.Nil (omega arith))
    ∙ ap (λ (z : Seen). set_slots f (drop (p + 1) xs) (drop (p + 1) vs) z.held) set
    ∙ sym (ap (λ (l : List Slot). set_slots f l (drop p vs) s.held) (drop_more xs p x in_xs ∙ ap (λ (y : Slot). y ∷ drop (p + 1) xs) (sym x_is))
    ∙ ap (λ (l : List Value). set_slots f (x ∷ drop (p + 1) xs) l s.held) (drop_more vs p v in_vs ∙ ap (λ (w : Value). w ∷ drop (p + 1) vs) (sym v_is)))
    ∙ so_far

pub still_objects : (f : ℕ) (x : Slot) (v : Value) (s t : Seen) → t ≡ changed s (set_slot f x v s.held) → t.held.objects ≡ s.held.objects
still_objects f x v s t set = ap (λ (z : Seen). z.held.objects) set ∙ objects_kept f x v s.held

pub seen_is : (s o : Seen) (all : StateView) → s.held ≡ all → s.marks ≡ o.marks → s ≡ changed o all
seen_is s o all held marks = ap (λ (h : StateView). let z : Seen = record { held = h; marks = s.marks } in z) held ∙ ap (λ (m : List (ℕ × StateView)). let z : Seen = record { held = all; marks = m } in z) marks
