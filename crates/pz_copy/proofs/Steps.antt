-- The steps by which a parcel gets into a state.
use Rattle.std.proofs.Common.{◌≡◌, refl, sym, ◌∙◌, ap, subst, ℕ, zero, suc, ◌+◌, ◌-◌, ◌<◌, ◌≤◌, List, [], ◌∷◌, length, take, get_or, Some, arith}
use Rattle.std.specs.Prelude.{All, slice_get}
use Rattle.std.proofs.lemmas.List.{length-map}
use Rattle.pz_state.specs.pz_value.declared.value.Value.{Value}
use Rattle.pz_state.specs.Objects.{ObjectView, StoredObject}
use Rattle.pz_state.specs.States.{StateView, object, nils, made, set_item, HasItem}
use Rattle.pz_state.specs.References.{RefersWithin}
use Rattle.pz_state.specs.Marks.{Seen, changed}
use Rattle.pz_copy.specs.References.{renumbered}
use Rattle.pz_copy.specs.Parcels.{plain_objects}
use Rattle.pz_copy.specs.Unpacking.{shifted_values}
use Rattle.pz_copy.specs.devices.Filling.{with_blanks, filled, with_parts}
use Rattle.pz_copy.proofs.Objects.{partly, shifted_within, fill_next, fill_has, fill_long, parts_next, parts_blank, parts_length}
use Rattle.pz_copy.proofs.Parcelled.{blanks_next, blanks_length}

pub length_take : (n : ℕ) (os : List StoredObject) → n ≤ length os → length (take n os) ≡ n
length_take zero os h = refl
length_take (suc n) [] h = absurd (omega arith)
length_take (suc n) (o ∷ os) h = ap suc (length_take n os (omega arith))

-- an element of a list of objects, as plain data
pub plain_at : (objects : List StoredObject) (i : ℕ) (o : StoredObject) → i < length objects → o ≡ get_or objects i o → slice_get (plain_objects objects) i ≡ Some o.object
plain_at [] i o below is = absurd (omega arith)
plain_at (p ∷ ps) zero o below is = ap (λ (q : StoredObject). Some q.object) (sym is)
plain_at (p ∷ ps) (suc i) o below is = plain_at ps i o (omega arith) is

pub plain_length : (objects : List StoredObject) → length (plain_objects objects) ≡ length objects
plain_length objects = length-map objects (λ o. o.object)

-- what holds of each object holds of this one
pub plain_all : (P : ObjectView → Type 0) (objects : List StoredObject) (i : ℕ) (o : StoredObject) → i < length objects → o ≡ get_or objects i o → All P (plain_objects objects) → P o.object
plain_all P [] i o below is all = absurd (omega arith)
plain_all P (p ∷ ps) zero o below is all = subst (λ (q : StoredObject). P q.object) (sym is) (all 0 p.object (omega arith))
plain_all P (p ∷ ps) (suc i) o below is all = plain_all P ps i o (omega arith) is (λ k d h. all (suc k) d (omega (arith, h)))

-- an object is made
pub made_step : (start state new : Seen) (objects : List StoredObject) (i : ℕ) (o : StoredObject) → i < length objects → o ≡ get_or objects i o → state ≡ changed start (with_blanks start.held (plain_objects (take i objects))) → new ≡ changed state (made state.held o.object.class (length o.object.items)) → new ≡ changed start (with_blanks start.held (plain_objects (take (i + 1) objects)))
made_step start state new objects i o below is state_is new_is =
    new_is
    ∙ ap (λ (t : Seen). changed t (made t.held o.object.class (length o.object.items))) state_is
    ∙ ap (λ (h : StateView). changed start h) (blanks_next start.held objects i o below is)

pub made_length : (start state : Seen) (objects : List StoredObject) (i : ℕ) → i ≤ length objects → state ≡ changed start (with_blanks start.held (plain_objects (take i objects))) → length state.held.objects ≡ length start.held.objects + i
made_length start state objects i few state_is =
    ap (λ (t : Seen). length t.held.objects) state_is ∙ blanks_length start.held (plain_objects (take i objects)) ∙ ap (λ n. length start.held.objects + n) (plain_length (take i objects) ∙ length_take i objects few)

-- an item is set
pub item_there : (start state : Seen) (r count : ℕ) (items : List Value) (given : ℕ) → r < length start.held.objects → given < length items → state ≡ changed start (filled r (partly count items given) start.held) → HasItem state.held r given
item_there start state r count items given there below state_is = subst (λ (t : Seen). HasItem t.held r given) (sym state_is) (fill_has start.held r count items given there below)

pub item_within : (start state : Seen) (r count : ℕ) (items : List Value) (given : ℕ) (item value : Value) → given < length items → item ≡ get_or items given item → All (RefersWithin (length start.held.objects - count)) items → state ≡ changed start (filled r (partly count items given) start.held) → value ≡ renumbered (λ n. count + n) item → RefersWithin (length state.held.objects) value
item_within start state r count items given item value below is all state_is value_is =
    let here : RefersWithin (length start.held.objects - count) item = subst (RefersWithin (length start.held.objects - count)) (sym is) (all given item below) in
    let long : length state.held.objects ≡ length start.held.objects = ap (λ (t : Seen). length t.held.objects) state_is ∙ fill_long start.held r (partly count items given) in
    subst (RefersWithin (length state.held.objects)) (sym value_is)
    (subst (λ (n : ℕ). RefersWithin n (renumbered (λ k. count + k) item)) (sym long) (shifted_within (length start.held.objects) count item here))

pub item_step : (start state new : Seen) (r count : ℕ) (items : List Value) (given : ℕ) (item value : Value) → given < length items → item ≡ get_or items given item → value ≡ renumbered (λ n. count + n) item → state ≡ changed start (filled r (partly count items given) start.held) → new ≡ changed state (set_item state.held r given value) → new ≡ changed start (filled r (partly count items (given + 1)) start.held)
item_step start state new r count items given item value below is value_is state_is new_is =
    new_is
    ∙ ap (λ (v : Value). changed state (set_item state.held r given v)) value_is
    ∙ ap (λ (t : Seen). changed t (set_item t.held r given (renumbered (λ n. count + n) item))) state_is
    ∙ ap (λ (h : StateView). changed start h) (fill_next start.held r count items given item below is)

-- an object gets its items
module _ (start state : Seen) (count : ℕ) (objects : List StoredObject) (given : ℕ) (o : StoredObject) (front : length (take count start.held.objects) ≡ count) (below : given < length objects) (is : o ≡ get_or objects given o) (state_is : state ≡ changed start (with_parts start.held count given (plain_objects objects))) where
  few : given ≤ length (plain_objects objects)
  few = let same : length (plain_objects objects) ≡ length objects = plain_length objects in omega (arith, same, below)

  pub object_length : length state.held.objects ≡ count + length (plain_objects objects)
  object_length = ap (λ (t : Seen). length t.held.objects) state_is ∙ parts_length start.held count (plain_objects objects) front given few

  pub object_blank : (object state.held (count + given)).items ≡ nils (length o.object.items)
  object_blank = ap (λ (t : Seen). (object t.held (count + given)).items) state_is ∙ parts_blank start.held count (plain_objects objects) front given o.object (plain_at objects given o below is)

  pub object_step : (new : Seen) → new ≡ changed state (filled (count + given) (shifted_values count o.object.items) state.held) → new ≡ changed start (with_parts start.held count (given + 1) (plain_objects objects))
  object_step new new_is =
      let more : suc given ≡ given + 1 = omega arith in
      new_is
      ∙ ap (λ (t : Seen). changed t (filled (count + given) (shifted_values count o.object.items) t.held)) state_is
      ∙ ap (λ (h : StateView). changed start h) (parts_next start.held count (plain_objects objects) front given o.object (plain_at objects given o below is))
      ∙ ap (λ n. changed start (with_parts start.held count n (plain_objects objects))) more
