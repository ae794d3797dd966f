-- References of a state name objects that are there, whatever a call changes.
use Rattle.std.proofs.Common.{◌≡◌, ℕ, zero, suc, Bool, true, false, nat_eq, nat_lt, ◌+◌, ◌-◌, ◌≤◌, ◌<◌, ◌^◌, List, [], ◌∷◌, length, take, slice_set, slice_get, unwrap_or, refl, subst, sym, ◌∙◌, arith, length-append}
use Rattle.std.specs.Prelude.{All}
use Rattle.std.proofs.lemmas.List.Elements.{All-append, All-set, All-replicate}
use Rattle.std.proofs.lemmas.List.{length-take, length-set, length-replicate}
use Rattle.pz_value.specs.declared.value.ClassId.{ClassId}
use Rattle.pz_value.specs.declared.value.Value.{Value}
use Rattle.pz_value.specs.declared.value.Value.TheVariants as value
use Rattle.pz_state.specs.Objects.{ObjectView}
use Rattle.pz_state.specs.States.{StateView, Frames, value_at, variable, locals, local, object, no_object, locals_of, at_frame, at_object, with_frame, without_frame, nils, fitted, initial, set_variable, set_local, set_item, resized, opened, closed, made}
use Rattle.pz_state.specs.References.{RefersWithin, IsSelfContained}
use Rattle.pz_state.proofs.ObjectLists.{length-at_object}

more : {m n : ℕ} → m ≤ n → (v : Value) → RefersWithin m v → RefersWithin n v
more le value.Nil r = tt
more le (value.Bool b) r = tt
more le (value.Int i) r = tt
more le (value.Char b) r = tt
more le (value.Str text) r = tt
more le (value.Ref o) r = omega (arith, r)

all_cons : {A : Type 0} (P : A → Type 0) (x : A) (xs : List A) → P x → All P xs → All P (x ∷ xs)
all_cons P x xs p h zero d lt = p
all_cons P x xs p h (suc k) d lt = h k d (omega arith)

all_head : {A : Type 0} (P : A → Type 0) (x : A) (xs : List A) → All P (x ∷ xs) → P x
all_head P x xs h = h 0 x (omega arith)

all_tail : {A : Type 0} (P : A → Type 0) (x : A) (xs : List A) → All P (x ∷ xs) → All P xs
all_tail P x xs h k d lt = h (suc k) d (omega arith)

all_none : {A : Type 0} (P : A → Type 0) → All P []
all_none P k d lt = absurd (omega arith)

all_weaker : {A : Type 0} (P Q : A → Type 0) → ((x : A) → P x → Q x) → (xs : List A) → All P xs → All Q xs
all_weaker P Q f xs h k d lt = f _ (h k d lt)

abbrev AreWithin : ℕ → List Value → Type 0
AreWithin n values = All (RefersWithin n) values

-- where this many objects are there
record Within (n : ℕ) (s : StateView) : Type 0 where
  vars : AreWithin n s.vars
  frames : All (λ f. AreWithin n f.1) s.frames
  objects : All (λ o. AreWithin n o.items) s.objects

within : (s : StateView) → IsSelfContained s → Within (length s.objects) s
within s c = record { vars = c.vars; frames = c.frames; objects = c.objects }

abbrev HasFew : List Value → Type 0
HasFew values = length values < 2 ^ 32

contained_by : (n : ℕ) (s : StateView) → n ≡ length s.objects → Within n s → All (λ o. HasFew o.items) s.objects → IsSelfContained s
contained_by n s e w few = contained (subst (λ (k : ℕ). Within k s) e w)
  where
    contained : Within (length s.objects) s → IsSelfContained s
    contained v = record { vars = v.vars; frames = v.frames; objects = v.objects; counted = few }

nils_within : (n count : ℕ) → AreWithin n (nils count)
nils_within n count = All-replicate (RefersWithin n) count value.Nil tt

-- lists

at_frame_within : (n number : ℕ) (change : List Value → List Value) → ((values : List Value) → AreWithin n values → AreWithin n (change values)) → (fs : Frames)
    → All (λ f. AreWithin n f.1) fs → All (λ f. AreWithin n f.1) (at_frame number change fs)
at_frame_within n number change keeps [] h = h
at_frame_within n number change keeps (f ∷ fs) h = by_number (at_frame_within n number change keeps fs (all_tail (λ g. AreWithin n g.1) f fs h)) (nat_eq f.0 number) refl
  where
    by_number : All (λ g. AreWithin n g.1) (at_frame number change fs) → (b : Bool) → nat_eq f.0 number ≡ b → All (λ g. AreWithin n g.1) (at_frame number change (f ∷ fs))
    by_number rest true e = rw e (all_cons (λ g. AreWithin n g.1) (f.0, change f.1) fs (keeps f.1 (all_head (λ g. AreWithin n g.1) f fs h)) (all_tail (λ g. AreWithin n g.1) f fs h))
    by_number rest false e = rw e (all_cons (λ g. AreWithin n g.1) f (at_frame number change fs) (all_head (λ g. AreWithin n g.1) f fs h) rest)

with_frame_within : (n number : ℕ) (values : List Value) → AreWithin n values → (fs : Frames) → All (λ f. AreWithin n f.1) fs → All (λ f. AreWithin n f.1) (with_frame number values fs)
with_frame_within n number values w [] h = all_cons (λ g. AreWithin n g.1) (number, values) [] w h
with_frame_within n number values w (f ∷ fs) h = by_number (with_frame_within n number values w fs (all_tail (λ g. AreWithin n g.1) f fs h)) (nat_lt number f.0) refl
  where
    by_number : All (λ g. AreWithin n g.1) (with_frame number values fs) → (b : Bool) → nat_lt number f.0 ≡ b → All (λ g. AreWithin n g.1) (with_frame number values (f ∷ fs))
    by_number rest true e = rw e (all_cons (λ g. AreWithin n g.1) (number, values) (f ∷ fs) w h)
    by_number rest false e = rw e (all_cons (λ g. AreWithin n g.1) f (with_frame number values fs) (all_head (λ g. AreWithin n g.1) f fs h) rest)

without_frame_within : (n number : ℕ) (fs : Frames) → All (λ f. AreWithin n f.1) fs → All (λ f. AreWithin n f.1) (without_frame number fs)
without_frame_within n number [] h = h
without_frame_within n number (f ∷ fs) h = by_number (without_frame_within n number fs (all_tail (λ g. AreWithin n g.1) f fs h)) (nat_eq f.0 number) refl
  where
    by_number : All (λ g. AreWithin n g.1) (without_frame number fs) → (b : Bool) → nat_eq f.0 number ≡ b → All (λ g. AreWithin n g.1) (without_frame number (f ∷ fs))
    by_number rest true e = rw e (all_tail (λ g. AreWithin n g.1) f fs h)
    by_number rest false e = rw e (all_cons (λ g. AreWithin n g.1) f (without_frame number fs) (all_head (λ g. AreWithin n g.1) f fs h) rest)

at_object_all : (P : List Value → Type 0) (r : ℕ) (change : List Value → List Value) → ((values : List Value) → P values → P (change values)) → (os : List ObjectView)
    → All (λ o. P o.items) os → All (λ o. P o.items) (at_object r change os)
at_object_all P r change keeps [] h = h
at_object_all P zero change keeps (o ∷ os) h = all_cons (λ x. P x.items) (record { class = o.class; items = change o.items }) os
    (keeps o.items (all_head (λ x. P x.items) o os h)) (all_tail (λ x. P x.items) o os h)
at_object_all P (suc r) change keeps (o ∷ os) h = all_cons (λ x. P x.items) o (at_object r change os) (all_head (λ x. P x.items) o os h)
    (at_object_all P r change keeps os (all_tail (λ x. P x.items) o os h))

at_object_within : (n r : ℕ) (change : List Value → List Value) → ((values : List Value) → AreWithin n values → AreWithin n (change values)) → (os : List ObjectView)
    → All (λ o. AreWithin n o.items) os → All (λ o. AreWithin n o.items) (at_object r change os)
at_object_within n = at_object_all (AreWithin n)

take_within : (n count : ℕ) (values : List Value) → AreWithin n values → AreWithin n (take count values)
take_within n zero values h = all_none (RefersWithin n)
take_within n (suc count) [] h = all_none (RefersWithin n)
take_within n (suc count) (v ∷ vs) h = all_cons (RefersWithin n) v (take count vs) (all_head (RefersWithin n) v vs h) (take_within n count vs (all_tail (RefersWithin n) v vs h))

fitted_within : (n count : ℕ) (values : List Value) → AreWithin n values → AreWithin n (fitted count values)
fitted_within n count values h = All-append (RefersWithin n) (take count values) (nils (count - length values)) (take_within n count values h) (nils_within n (count - length values))

length-fitted : (count : ℕ) (values : List Value) → length (fitted count values) ≡ count
length-fitted count values = omega (arith, length-append (take count values) (nils (count - length values)), length-take count values, length-replicate (count - length values) value.Nil)

-- states

pub contained-initial : (variables : List Value) → AreWithin 0 variables → IsSelfContained (initial variables)
contained-initial variables here = record { vars = here; frames = all_none _; objects = all_none _; counted = all_none _ }

pub contained-set_variable : (s : StateView) (slot : ℕ) (x : Value) → IsSelfContained s → RefersWithin (length s.objects) x → IsSelfContained (set_variable s slot x)
contained-set_variable s slot x c r = record { vars = All-set (RefersWithin (length s.objects)) s.vars slot x r c.vars; frames = c.frames; objects = c.objects; counted = c.counted }

pub contained-set_local : (s : StateView) (number slot : ℕ) (x : Value) → IsSelfContained s → RefersWithin (length s.objects) x → IsSelfContained (set_local s number slot x)
contained-set_local s number slot x c r = record {
  vars = c.vars;
  frames = at_frame_within (length s.objects) number (λ values. slice_set values slot x) (λ values w. All-set (RefersWithin (length s.objects)) values slot x r w) s.frames c.frames;
  objects = c.objects;
  counted = c.counted;
}

pub contained-set_item : (s : StateView) (o place : ℕ) (x : Value) → IsSelfContained s → RefersWithin (length s.objects) x → IsSelfContained (set_item s o place x)
contained-set_item s o place x c r = contained_by (length s.objects) (set_item s o place x) (sym (length-at_object s.objects o (λ values. slice_set values place x)))
    (record { vars = c.vars; frames = c.frames; objects = at_object_within (length s.objects) o (λ values. slice_set values place x) (λ values w. All-set (RefersWithin (length s.objects)) values place x r w) s.objects c.objects })
    (at_object_all HasFew o (λ values. slice_set values place x) (λ values few. rw length-set few) s.objects c.counted)

pub contained-resized : (s : StateView) (o count : ℕ) → count < 2 ^ 32 → IsSelfContained s → IsSelfContained (resized s o count)
contained-resized s o count few c = contained_by (length s.objects) (resized s o count) (sym (length-at_object s.objects o (fitted count)))
    (record { vars = c.vars; frames = c.frames; objects = at_object_within (length s.objects) o (fitted count) (fitted_within (length s.objects) count) s.objects c.objects })
    (at_object_all HasFew o (fitted count) (λ values was. rw length-fitted few) s.objects c.counted)

pub contained-opened : (s : StateView) (number count : ℕ) → IsSelfContained s → IsSelfContained (opened s number count)
contained-opened s number count c = record { vars = c.vars; frames = with_frame_within (length s.objects) number (nils count) (nils_within (length s.objects) count) s.frames c.frames; objects = c.objects; counted = c.counted }

pub contained-closed : (s : StateView) (number : ℕ) → IsSelfContained s → IsSelfContained (closed s number)
contained-closed s number c = record { vars = c.vars; frames = without_frame_within (length s.objects) number s.frames c.frames; objects = c.objects; counted = c.counted }

pub length-made : (s : StateView) (class : ClassId) (count : ℕ) → length (made s class count).objects ≡ length s.objects + 1
length-made s class count = length-append s.objects (record { class = class; items = nils count } ∷ []) ∙ omega arith

pub contained-made : (s : StateView) (class : ClassId) (count : ℕ) → count < 2 ^ 32 → IsSelfContained s → IsSelfContained (made s class count)
contained-made s class count few c = let n = length s.objects in let grows : length s.objects ≤ length s.objects + 1 = omega arith in
    let wider = λ (values : List Value) (w : AreWithin (length s.objects) values). all_weaker (RefersWithin (length s.objects)) (RefersWithin (length s.objects + 1)) (more grows) values w in
    contained_by (length s.objects + 1) (made s class count) (sym (length-made s class count)) (record {
      vars = wider s.vars c.vars;
      frames = all_weaker (λ f. AreWithin (length s.objects) f.1) (λ f. AreWithin (length s.objects + 1) f.1) (λ f w. wider f.1 w) s.frames c.frames;
      objects = All-append (λ o. AreWithin (length s.objects + 1) o.items) s.objects (record { class = class; items = nils count } ∷ [])
          (all_weaker (λ o. AreWithin (length s.objects) o.items) (λ o. AreWithin (length s.objects + 1) o.items) (λ o w. wider o.items w) s.objects c.objects)
          (all_cons (λ o. AreWithin (length s.objects + 1) o.items) (record { class = class; items = nils count }) [] (nils_within (length s.objects + 1) count) (all_none _));
    })
    (All-append (λ o. HasFew o.items) s.objects (record { class = class; items = nils count } ∷ []) c.counted
    (all_cons (λ o. HasFew o.items) (record { class = class; items = nils count }) [] (rw length-replicate few) (all_none (λ o. HasFew o.items))))

-- what is read

value_at_within : (n : ℕ) (values : List Value) (place : ℕ) → AreWithin n values → RefersWithin n (value_at values place)
value_at_within n [] place w = tt
value_at_within n (v ∷ vs) zero w = all_head (RefersWithin n) v vs w
value_at_within n (v ∷ vs) (suc place) w = value_at_within n vs place (all_tail (RefersWithin n) v vs w)

pub variable_within : (s : StateView) (slot : ℕ) → IsSelfContained s → RefersWithin (length s.objects) (variable s slot)
variable_within s slot c = value_at_within (length s.objects) s.vars slot c.vars

locals_within : (n number : ℕ) (fs : Frames) → All (λ f. AreWithin n f.1) fs → AreWithin n (locals_of fs number)
locals_within n number [] h = all_none (RefersWithin n)
locals_within n number (f ∷ fs) h = by_number (locals_within n number fs (all_tail (λ g. AreWithin n g.1) f fs h)) (nat_eq f.0 number) refl
  where
    by_number : AreWithin n (locals_of fs number) → (b : Bool) → nat_eq f.0 number ≡ b → AreWithin n (locals_of (f ∷ fs) number)
    by_number rest true e = rw e (all_head (λ g. AreWithin n g.1) f fs h)
    by_number rest false e = rw e rest

pub frame_within : (s : StateView) (number : ℕ) → IsSelfContained s → All (RefersWithin (length s.objects)) (locals s number)
frame_within s number c = locals_within (length s.objects) number s.frames c.frames

pub local_within : (s : StateView) (number slot : ℕ) → IsSelfContained s → RefersWithin (length s.objects) (local s number slot)
local_within s number slot c = value_at_within (length s.objects) (locals_of s.frames number) slot (locals_within (length s.objects) number s.frames c.frames)

object_within_of : (n r : ℕ) (os : List ObjectView) → All (λ o. AreWithin n o.items) os → AreWithin n (unwrap_or (slice_get os r) no_object).items
object_within_of n r [] h = all_none (RefersWithin n)
object_within_of n zero (o ∷ os) h = all_head (λ x. AreWithin n x.items) o os h
object_within_of n (suc r) (o ∷ os) h = object_within_of n r os (all_tail (λ x. AreWithin n x.items) o os h)

pub object_within : (s : StateView) (r : ℕ) → IsSelfContained s → All (RefersWithin (length s.objects)) (object s r).items
object_within s r c = object_within_of (length s.objects) r s.objects c.objects

object_few_of : (r : ℕ) (os : List ObjectView) → All (λ o. HasFew o.items) os → HasFew (unwrap_or (slice_get os r) no_object).items
object_few_of r [] h = omega arith
object_few_of zero (o ∷ os) h = all_head (λ x. HasFew x.items) o os h
object_few_of (suc r) (o ∷ os) h = object_few_of r os (all_tail (λ x. HasFew x.items) o os h)

pub object_few : (s : StateView) (r : ℕ) → IsSelfContained s → length (object s r).items < 2 ^ 32
object_few s r c = object_few_of r s.objects c.counted
