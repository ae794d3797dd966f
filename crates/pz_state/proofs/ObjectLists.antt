-- The objects of a state, and the one at a place.
use Rattle.std.proofs.Common.{◌≡◌, ℕ, zero, suc, ◌-◌, ◌≤◌, ◌<◌, List, [], ◌∷◌, length, map, take, get_or, slice_set, slice_index_or, slice_get, unwrap_or, refl, ap, sym, subst, ◌∙◌, arith}
use Rattle.std.proofs.Math.Seq.{map-set_same}
use Rattle.std.proofs.lemmas.List.{get_or-set_same, length-map, length-set, take-map}
use Rattle.std.specs.Prelude.{Result, OnErr, Ok, Err}
use Rattle.pz_value.specs.declared.value.Value.{Value}
use Rattle.pz_state.specs.Objects.{ObjectView, StoredObject}
use Rattle.pz_state.specs.States.{no_object, at_object}
use Rattle.pz_state.specs.devices.StoredStates.{StoredState, Room, IsWider, stored_state}
use Rattle.pz_state.specs.devices.Changes.{without_last}
use Rattle.pz_state.specs.declared.contents.Contents.TheInside.{Inside}

abbrev pub objects_of : List StoredObject → List ObjectView
objects_of os = map (λ (o : StoredObject). o.object) os

abbrev pub rooms_of : List StoredObject → List ℕ
rooms_of os = map (λ (o : StoredObject). o.room) os

-- an object of which only the items are others
pub objects_of-set : (os : List StoredObject) (r : ℕ) (o new : StoredObject) (change : List Value → List Value) → r < length os → o ≡ slice_index_or os r o
    → new.object ≡ record { class = o.object.class; items = change o.object.items } → objects_of (slice_set os r new) ≡ at_object r change (objects_of os)
objects_of-set [] r o new change lt e f = absurd (omega arith)
objects_of-set (x ∷ xs) zero o new change lt e f = ap (λ (z : ObjectView). z ∷ objects_of xs) (f ∙ ap (λ (z : StoredObject). record { class = z.object.class; items = change z.object.items }) e)
objects_of-set (x ∷ xs) (suc r) o new change lt e f = ap (λ (zs : List ObjectView). x.object ∷ zs) (objects_of-set xs r o new change (omega arith) e f)

pub rooms_of-set : (os : List StoredObject) (r : ℕ) (o new : StoredObject) → o ≡ slice_index_or os r o → o.room ≤ new.room → (k : ℕ) → get_or (rooms_of os) k 0 ≤ get_or (rooms_of (slice_set os r new)) k 0
rooms_of-set [] r o new e le k = omega arith
rooms_of-set (x ∷ xs) zero o new e le zero = let same : o.room ≡ x.room = ap (λ (z : StoredObject). z.room) e in omega arith
rooms_of-set (x ∷ xs) zero o new e le (suc k) = omega arith
rooms_of-set (x ∷ xs) (suc r) o new e le zero = omega arith
rooms_of-set (x ∷ xs) (suc r) o new e le (suc k) = rooms_of-set xs r o new e le k

-- the object at a place
pub object_there : (os : List StoredObject) (r : ℕ) (o : StoredObject) (d : ObjectView) → r < length os → o ≡ slice_index_or os r o → unwrap_or (slice_get (objects_of os) r) d ≡ o.object
object_there [] r o d lt e = absurd (omega arith)
object_there (x ∷ xs) zero o d lt e = ap (λ (z : StoredObject). z.object) (sym e)
object_there (x ∷ xs) (suc r) o d lt e = object_there xs r o d (omega arith) e

pub room_there : (os : List StoredObject) (r : ℕ) (o : StoredObject) → r < length os → o ≡ slice_index_or os r o → get_or (rooms_of os) r 0 ≡ o.room
room_there [] r o lt e = absurd (omega arith)
room_there (x ∷ xs) zero o lt e = ap (λ (z : StoredObject). z.room) (sym e)
room_there (x ∷ xs) (suc r) o lt e = room_there xs r o (omega arith) e

pub within_objects : (os : List StoredObject) (r i : ℕ) (d : ObjectView) → d.items ≡ [] → i < length (unwrap_or (slice_get (objects_of os) r) d).items → r < length os
within_objects [] r i d e lt = let q : length d.items ≡ 0 = ap length e in absurd (omega arith)
within_objects (x ∷ xs) zero i d e lt = omega arith
within_objects (x ∷ xs) (suc r) i d e lt = let q = within_objects xs r i d e lt in omega arith

-- one change of items takes another back
pub at_object-back : (os : List ObjectView) (r : ℕ) (d : ObjectView) (change back : List Value → List Value) → back (change (unwrap_or (slice_get os r) d).items) ≡ (unwrap_or (slice_get os r) d).items
    → at_object r back (at_object r change os) ≡ os
at_object-back [] r d change back e = refl
at_object-back (x ∷ xs) zero d change back e = ap (λ (items : List Value). record { class = x.class; items = items } ∷ xs) e
at_object-back (x ∷ xs) (suc r) d change back e = ap (λ (zs : List ObjectView). x ∷ zs) (at_object-back xs r d change back e)

pub items-at_object : (os : List ObjectView) (r : ℕ) (d : ObjectView) (change : List Value → List Value) → r < length os → (unwrap_or (slice_get (at_object r change os) r) d).items ≡ change (unwrap_or (slice_get os r) d).items
items-at_object [] r d change lt = absurd (omega arith)
items-at_object (x ∷ xs) zero d change lt = refl
items-at_object (x ∷ xs) (suc r) d change lt = items-at_object xs r d change (omega arith)

pub length-at_object : (os : List ObjectView) (r : ℕ) (change : List Value → List Value) → length (at_object r change os) ≡ length os
length-at_object [] r change = refl
length-at_object (x ∷ xs) zero change = omega arith
length-at_object (x ∷ xs) (suc r) change = let k = length-at_object xs r change in omega arith

-- What a call on one object of a state leaves of it.

pub at_error : {T E P : Type 0} (r : Result T E) → P → OnErr r P
at_error (Ok x) p = tt
at_error (Err e) p = p

pub same_room : (room : Room) → IsWider room room
same_room room = record { frames = omega arith; items = λ r. omega arith }

abbrev pub with_objects : Inside → List StoredObject → StoredState
with_objects h os = record {
  state = record { vars = h.vars.items; frames = h.frames.frames; objects = objects_of os };
  room = record { frames = h.frames.room; items = rooms_of os };
}

abbrev pub with_object : Inside → ℕ → StoredObject → StoredState
with_object h r new = with_objects h (slice_set h.objects.items r new)

pub object_seen : {seen : StoredState} (h : Inside) → stored_state h ≡ seen → (r : ℕ) (o : StoredObject) (d : ObjectView) → r < length h.objects.items → o ≡ slice_index_or h.objects.items r o → unwrap_or (slice_get seen.state.objects r) d ≡ o.object
object_seen {seen} h v r o d lt e = subst (λ (s : StoredState). unwrap_or (slice_get s.state.objects r) d ≡ o.object) v (object_there h.objects.items r o d lt e)

pub room_seen : {seen : StoredState} (h : Inside) → stored_state h ≡ seen → (r : ℕ) (o : StoredObject) → r < length h.objects.items → o ≡ slice_index_or h.objects.items r o → get_or seen.room.items r 0 ≡ o.room
room_seen {seen} h v r o lt e = subst (λ (s : StoredState). get_or s.room.items r 0 ≡ o.room) v (room_there h.objects.items r o lt e)

pub place_seen : {seen : StoredState} (h : Inside) → stored_state h ≡ seen → (r : ℕ) → r < length seen.state.objects → r < length h.objects.items
place_seen {seen} h v r lt = rw (← length-map h.objects.items (λ (o : StoredObject). o.object)) (subst (λ (s : StoredState). r < length s.state.objects) (sym v) lt)

pub item_seen : {seen : StoredState} (h : Inside) → stored_state h ≡ seen → (r place : ℕ) → place < length (unwrap_or (slice_get seen.state.objects r) no_object).items → r < length h.objects.items
item_seen {seen} h v r place lt = within_objects h.objects.items r place no_object refl (subst (λ (s : StoredState). place < length (unwrap_or (slice_get s.state.objects r) no_object).items) (sym v) lt)

pub changes_object : {seen : StoredState} (h : Inside) → stored_state h ≡ seen → (r : ℕ) (o new : StoredObject) (change : List Value → List Value) → r < length h.objects.items → o ≡ slice_index_or h.objects.items r o
    → new.object ≡ record { class = o.object.class; items = change o.object.items } → (with_object h r new).state ≡ record { vars = seen.state.vars; frames = seen.state.frames; objects = at_object r change seen.state.objects }
changes_object {seen} h v r o new change lt e f = subst (λ (s : StoredState). (with_object h r new).state ≡ record { vars = s.state.vars; frames = s.state.frames; objects = at_object r change s.state.objects }) v
    (ap (λ (os : List ObjectView). record { vars = h.vars.items; frames = h.frames.frames; objects = os }) (objects_of-set h.objects.items r o new change lt e f))

pub keeps_object : {seen : StoredState} (h : Inside) → stored_state h ≡ seen → (r : ℕ) (o new : StoredObject) → o ≡ slice_index_or h.objects.items r o → new.object ≡ o.object → (with_object h r new).state ≡ seen.state
keeps_object {seen} h v r o new e f = ap (λ (os : List ObjectView). record { vars = h.vars.items; frames = h.frames.frames; objects = os })
    (map-set_same (λ (x : StoredObject). x.object) h.objects.items r new o (f ∙ ap (λ (x : StoredObject). x.object) e)) ∙ ap (λ (s : StoredState). s.state) v

pub widens : {seen : StoredState} (h : Inside) → stored_state h ≡ seen → (r : ℕ) (o new : StoredObject) → o ≡ slice_index_or h.objects.items r o → o.room ≤ new.room → IsWider seen.room (with_object h r new).room
widens {seen} h v r o new e le = subst (λ (s : StoredState). IsWider s.room (with_object h r new).room) v (record { frames = omega arith; items = rooms_of-set h.objects.items r o new e le })

-- the object at that place is the new one
pub new_there : (h : Inside) (r : ℕ) (new : StoredObject) (d : ObjectView) → r < length h.objects.items → unwrap_or (slice_get (with_object h r new).state.objects r) d ≡ new.object
new_there h r new d lt = object_there (slice_set h.objects.items r new) r new d (rw length-set lt) (sym (get_or-set_same h.objects.items r new new lt))

pub new_room : (h : Inside) (r : ℕ) (new : StoredObject) → r < length h.objects.items → get_or (with_object h r new).room.items r 0 ≡ new.room
new_room h r new lt = room_there (slice_set h.objects.items r new) r new (rw length-set lt) (sym (get_or-set_same h.objects.items r new new lt))

pub still_there : (h : Inside) (r : ℕ) (new : StoredObject) → r < length h.objects.items → r < length (with_object h r new).state.objects
still_there h r new lt = rw (length-map, length-set) lt

-- and the change of its items is taken back by another
pub object_back : {seen : StoredState} (h : Inside) → stored_state h ≡ seen → (r : ℕ) (o new : StoredObject) (change back : List Value → List Value) → r < length h.objects.items → o ≡ slice_index_or h.objects.items r o
    → new.object ≡ record { class = o.object.class; items = change o.object.items } → back (change o.object.items) ≡ o.object.items
    → record { vars = h.vars.items; frames = h.frames.frames; objects = at_object r back (with_object h r new).state.objects } ≡ seen.state
object_back {seen} h v r o new change back lt e f g = ap (λ (os : List ObjectView). record { vars = h.vars.items; frames = h.frames.frames; objects = os })
    (ap (λ (os : List ObjectView). at_object r back os) (objects_of-set h.objects.items r o new change lt e f)
    ∙ at_object-back (objects_of h.objects.items) r o.object change back (subst (λ (x : ObjectView). back (change x.items) ≡ x.items) (sym (object_there h.objects.items r o o.object lt e)) g))
    ∙ ap (λ (s : StoredState). s.state) v

-- the objects without the last
pub rooms_of-take : (n : ℕ) (os : List StoredObject) (r : ℕ) → r < length (take n (objects_of os)) → get_or (rooms_of os) r 0 ≤ get_or (rooms_of (take n os)) r 0
rooms_of-take zero os r lt = absurd (omega arith)
rooms_of-take (suc n) [] r lt = omega arith
rooms_of-take (suc n) (x ∷ xs) zero lt = omega arith
rooms_of-take (suc n) (x ∷ xs) (suc r) lt = rooms_of-take n xs r (omega arith)

pub drops_last : {seen : StoredState} (h : Inside) → stored_state h ≡ seen → (n : ℕ) → n ≡ length h.objects.items → (rest : List StoredObject) → rest ≡ take (n - 1) h.objects.items
    → ((with_objects h rest).state ≡ record { vars = seen.state.vars; frames = seen.state.frames; objects = without_last seen.state.objects })
    × ((r : ℕ) → r < length (objects_of rest) → get_or seen.room.items r 0 ≤ get_or (rooms_of rest) r 0)
drops_last {seen} h v n ne rest e = subst (λ (s : StoredState). ((with_objects h rest).state ≡ record { vars = s.state.vars; frames = s.state.frames; objects = without_last s.state.objects })
    × ((r : ℕ) → r < length (objects_of rest) → get_or s.room.items r 0 ≤ get_or (rooms_of rest) r 0)) v (
      ap (λ (os : List ObjectView). record { vars = h.vars.items; frames = h.frames.frames; objects = os }) (ap objects_of e ∙ sym (take-map (λ (o : StoredObject). o.object) (n - 1) h.objects.items) ∙ ap (λ (k : ℕ). take k (objects_of h.objects.items)) same),
      λ r lt. subst (λ (os : List StoredObject). get_or (rooms_of h.objects.items) r 0 ≤ get_or (rooms_of os) r 0) (sym e)
          (rooms_of-take (n - 1) h.objects.items r (rw take-map (subst (λ (os : List StoredObject). r < length (objects_of os)) e lt))),
    )
  where
    same : n - 1 ≡ length (objects_of h.objects.items) - 1
    same = let k = length-map h.objects.items (λ (o : StoredObject). o.object) in omega (arith, ne)
