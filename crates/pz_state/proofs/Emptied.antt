-- Nil at a spot, before and after another change.
use Rattle.std.proofs.Common.{◌≡◌, ℕ, zero, suc, Bool, true, false, nat_eq, nat_lt, ◌-◌, List, [], ◌∷◌, ◌++◌, length, take, slice_set, None, refl, ap, sym, ◌∙◌, rules}
use Rattle.pz_value.specs.declared.value.Value.{Value}
use Rattle.pz_value.specs.declared.value.Value.TheVariants as value
use Rattle.pz_state.specs.Objects.{ObjectView}
use Rattle.pz_state.specs.States.{Frames, locals_in, at_frame, with_frame, without_frame, at_object}
use Rattle.pz_state.specs.devices.Changes.{without_last}
use Rattle.pz_state.proofs.FrameTables.{tail_has_none}
use Rattle.pz_state.proofs.ObjectLists.{length-at_object}

abbrev pub blank : ℕ → List Value → List Value
blank i xs = slice_set xs i value.Nil

-- a change that does not read what stands at a place
abbrev pub Overlooks : ℕ → (List Value → List Value) → Type 0
Overlooks i change = (xs : List Value) → blank i (change (blank i xs)) ≡ blank i (change xs)

pub set_twice : (xs : List Value) (i : ℕ) (old new : Value) → slice_set (slice_set xs i old) i new ≡ slice_set xs i new
set_twice [] i old new = refl
set_twice (x ∷ xs) zero old new = refl
set_twice (x ∷ xs) (suc i) old new = ap (λ (ys : List Value). x ∷ ys) (set_twice xs i old new)

pub set_overlooks : (i j : ℕ) (new : Value) → Overlooks i (λ xs. slice_set xs j new)
set_overlooks i j new [] = refl
set_overlooks zero zero new (x ∷ xs) = refl
set_overlooks zero (suc j) new (x ∷ xs) = refl
set_overlooks (suc i) zero new (x ∷ xs) = ap (λ (ys : List Value). new ∷ ys) (set_twice xs i value.Nil value.Nil)
set_overlooks (suc i) (suc j) new (x ∷ xs) = ap (λ (ys : List Value). x ∷ ys) (set_overlooks i j new xs)

pub take_overlooks : (i n : ℕ) → Overlooks i (take n)
take_overlooks i zero [] = refl
take_overlooks i (suc n) [] = refl
take_overlooks zero zero (x ∷ xs) = refl
take_overlooks (suc i) zero (x ∷ xs) = refl
take_overlooks zero (suc n) (x ∷ xs) = refl
take_overlooks (suc i) (suc n) (x ∷ xs) = ap (λ (ys : List Value). x ∷ ys) (take_overlooks i n xs)

pub append_overlooks : (i : ℕ) (more : List Value) → Overlooks i (λ xs. xs ++ more)
append_overlooks i more [] = refl
append_overlooks zero more (x ∷ xs) = refl
append_overlooks (suc i) more (x ∷ xs) = ap (λ (ys : List Value). x ∷ ys) (append_overlooks i more xs)

-- objects

pub objects_set : (os : List ObjectView) (r i : ℕ) (old new : Value) → at_object r (λ items. slice_set items i new) (at_object r (λ items. slice_set items i old) os) ≡ at_object r (λ items. slice_set items i new) os
objects_set [] r i old new = refl
objects_set (o ∷ os) zero i old new = ap (λ (items : List Value). record { class = o.class; items = items } ∷ os) (set_twice o.items i old new)
objects_set (o ∷ os) (suc r) i old new = ap (λ (ps : List ObjectView). o ∷ ps) (objects_set os r i old new)

pub objects_twice : (os : List ObjectView) (r i : ℕ) → at_object r (blank i) (at_object r (blank i) os) ≡ at_object r (blank i) os
objects_twice os r i = objects_set os r i value.Nil value.Nil

pub objects_changed : (os : List ObjectView) (r q i : ℕ) (change : List Value → List Value) → Overlooks i change → at_object r (blank i) (at_object q change (at_object r (blank i) os)) ≡ at_object r (blank i) (at_object q change os)
objects_changed [] r q i change h = refl
objects_changed (o ∷ os) zero zero i change h = ap (λ (items : List Value). record { class = o.class; items = items } ∷ os) (h o.items)
objects_changed (o ∷ os) zero (suc q) i change h = ap (λ (items : List Value). record { class = o.class; items = items } ∷ at_object q change os) (set_twice o.items i value.Nil value.Nil)
objects_changed (o ∷ os) (suc r) zero i change h = ap (λ (ps : List ObjectView). record { class = o.class; items = change o.items } ∷ ps) (objects_twice os r i)
objects_changed (o ∷ os) (suc r) (suc q) i change h = ap (λ (ps : List ObjectView). o ∷ ps) (objects_changed os r q i change h)

objects_taken : (n : ℕ) (os : List ObjectView) (r i : ℕ) → at_object r (blank i) (take n (at_object r (blank i) os)) ≡ at_object r (blank i) (take n os)
objects_taken zero [] r i = refl
objects_taken (suc n) [] r i = refl
objects_taken zero (o ∷ os) zero i = refl
objects_taken zero (o ∷ os) (suc r) i = refl
objects_taken (suc n) (o ∷ os) zero i = ap (λ (items : List Value). record { class = o.class; items = items } ∷ take n os) (set_twice o.items i value.Nil value.Nil)
objects_taken (suc n) (o ∷ os) (suc r) i = ap (λ (ps : List ObjectView). o ∷ ps) (objects_taken n os r i)

pub objects_unmade : (os : List ObjectView) (r i : ℕ) → at_object r (blank i) (without_last (at_object r (blank i) os)) ≡ at_object r (blank i) (without_last os)
objects_unmade os r i = ap (λ (n : ℕ). at_object r (blank i) (take (n - 1) (at_object r (blank i) os))) (length-at_object os r (blank i)) ∙ objects_taken (length os - 1) os r i

-- frames

pub frames_set : (fs : Frames) (number i : ℕ) (old new : Value) → at_frame number (λ values. slice_set values i new) (at_frame number (λ values. slice_set values i old) fs) ≡ at_frame number (λ values. slice_set values i new) fs
frames_set [] number i old new = refl
frames_set (f ∷ fs) number i old new = by_number (nat_eq f.0 number) refl (frames_set fs number i old new)
  where
    by_number : (b : Bool) → nat_eq f.0 number ≡ b → at_frame number (λ values. slice_set values i new) (at_frame number (λ values. slice_set values i old) fs) ≡ at_frame number (λ values. slice_set values i new) fs
        → at_frame number (λ values. slice_set values i new) (at_frame number (λ values. slice_set values i old) (f ∷ fs)) ≡ at_frame number (λ values. slice_set values i new) (f ∷ fs)
    by_number true e ih = rw (e, e) (ap (λ (values : List Value). (f.0, values) ∷ fs) (set_twice f.1 i old new))
    by_number false e ih = rw (e, e) (ap (λ (gs : Frames). f ∷ gs) ih)

pub frames_twice : (fs : Frames) (number i : ℕ) → at_frame number (blank i) (at_frame number (blank i) fs) ≡ at_frame number (blank i) fs
frames_twice fs number i = frames_set fs number i value.Nil value.Nil

blanks_again : (f : ℕ × List Value) (i : ℕ) (gs : Frames) → (f.0, blank i (blank i f.1)) ∷ gs ≡ (f.0, blank i f.1) ∷ gs
blanks_again f i gs = ap (λ (values : List Value). (f.0, values) ∷ gs) (set_twice f.1 i value.Nil value.Nil)

pub frames_changed : (fs : Frames) (number other i : ℕ) (change : List Value → List Value) → Overlooks i change → at_frame number (blank i) (at_frame other change (at_frame number (blank i) fs)) ≡ at_frame number (blank i) (at_frame other change fs)
frames_changed [] number other i change h = refl
frames_changed (f ∷ fs) number other i change h = by_number (nat_eq f.0 number) refl (nat_eq f.0 other) refl (frames_changed fs number other i change h)
  where
    by_number : (b : Bool) → nat_eq f.0 number ≡ b → (c : Bool) → nat_eq f.0 other ≡ c → at_frame number (blank i) (at_frame other change (at_frame number (blank i) fs)) ≡ at_frame number (blank i) (at_frame other change fs)
        → at_frame number (blank i) (at_frame other change (at_frame number (blank i) (f ∷ fs))) ≡ at_frame number (blank i) (at_frame other change (f ∷ fs))
    by_number true e true d ih = rw (e, d, e) (ap (λ (values : List Value). (f.0, values) ∷ fs) (h f.1))
    by_number true e false d ih = rw (e, d, e) (blanks_again f i (at_frame other change fs))
    by_number false e true d ih = rw (e, d, e) (ap (λ (gs : Frames). (f.0, change f.1) ∷ gs) (frames_twice fs number i))
    by_number false e false d ih = rw (e, d, e) (ap (λ (gs : Frames). f ∷ gs) ih)

pub frames_unopened : (fs : Frames) (number other i : ℕ) → at_frame number (blank i) (without_frame other (at_frame number (blank i) fs)) ≡ at_frame number (blank i) (without_frame other fs)
frames_unopened [] number other i = refl
frames_unopened (f ∷ fs) number other i = by_number (nat_eq f.0 number) refl (nat_eq f.0 other) refl (frames_unopened fs number other i)
  where
    by_number : (b : Bool) → nat_eq f.0 number ≡ b → (c : Bool) → nat_eq f.0 other ≡ c → at_frame number (blank i) (without_frame other (at_frame number (blank i) fs)) ≡ at_frame number (blank i) (without_frame other fs)
        → at_frame number (blank i) (without_frame other (at_frame number (blank i) (f ∷ fs))) ≡ at_frame number (blank i) (without_frame other (f ∷ fs))
    by_number true e true d ih = rw (e, d) refl
    by_number true e false d ih = rw (e, d, e) (blanks_again f i (without_frame other fs))
    by_number false e true d ih = rw (e, d) (frames_twice fs number i)
    by_number false e false d ih = rw (e, d, e) (ap (λ (gs : Frames). f ∷ gs) ih)

-- a frame that is not there
pub frames_absent : (fs : Frames) (number i : ℕ) → locals_in fs number ≡ None → at_frame number (blank i) fs ≡ fs
frames_absent [] number i e = refl
frames_absent (f ∷ fs) number i e = let t = tail_has_none number f fs (nat_eq f.0 number) refl e in rw t.0 (ap (λ (gs : Frames). f ∷ gs) (frames_absent fs number i t.1))

frames_other : (fs : Frames) (number other i : ℕ) (values : List Value) → nat_eq other number ≡ false → at_frame number (blank i) (with_frame other values (at_frame number (blank i) fs)) ≡ at_frame number (blank i) (with_frame other values fs)
frames_other [] number other i values ne = refl
frames_other (f ∷ fs) number other i values ne = by_number (nat_eq f.0 number) refl (nat_lt other f.0) refl (frames_other fs number other i values ne)
  where
    by_number : (b : Bool) → nat_eq f.0 number ≡ b → (c : Bool) → nat_lt other f.0 ≡ c → at_frame number (blank i) (with_frame other values (at_frame number (blank i) fs)) ≡ at_frame number (blank i) (with_frame other values fs)
        → at_frame number (blank i) (with_frame other values (at_frame number (blank i) (f ∷ fs))) ≡ at_frame number (blank i) (with_frame other values (f ∷ fs))
    by_number true e true d ih = rw (e, d, ne, e) (ap (λ (gs : Frames). (other, values) ∷ gs) (blanks_again f i fs))
    by_number true e false d ih = rw (e, d, e) (blanks_again f i (with_frame other values fs))
    by_number false e true d ih = rw (e, d, ne, e) (ap (λ (gs : Frames). (other, values) ∷ f ∷ gs) (frames_twice fs number i))
    by_number false e false d ih = rw (e, d, e) (ap (λ (gs : Frames). f ∷ gs) ih)

pub frames_reopened : (fs : Frames) (number other i : ℕ) (values : List Value) → locals_in fs other ≡ None → at_frame number (blank i) (with_frame other values (at_frame number (blank i) fs)) ≡ at_frame number (blank i) (with_frame other values fs)
frames_reopened fs number other i values none = by_number (nat_eq other number) refl
  where
    by_number : (b : Bool) → nat_eq other number ≡ b → at_frame number (blank i) (with_frame other values (at_frame number (blank i) fs)) ≡ at_frame number (blank i) (with_frame other values fs)
    by_number true e = let same : other ≡ number = search rules in ap (λ (gs : Frames). at_frame number (blank i) (with_frame other values gs)) (frames_absent fs number i (ap (λ (k : ℕ). locals_in fs k) (sym same) ∙ none))
    by_number false e = frames_other fs number other i values e
