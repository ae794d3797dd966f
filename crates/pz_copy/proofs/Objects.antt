-- Objects of which one after the other gets its items.
use Rattle.std.proofs.Common.{◌≡◌, refl, sym, ◌∙◌, ap, ℕ, zero, suc, ◌+◌, ◌-◌, ◌<◌, ◌≤◌, List, [], ◌∷◌, ◌++◌, length, map, take, drop, get_or, Some, arith}
use Rattle.std.specs.Prelude.{slice_get, slice_set, unwrap_or}
use Rattle.std.proofs.Math.ListN.{drop_of_length-le}
use Rattle.std.proofs.lemmas.List.{append-nil, append_assoc, length-append, length-map, length-drop, map-append}
use Rattle.std.proofs.lemmas.Option.{slice_get_within, slice_get-get_or}
use Rattle.pz_state.specs.pz_value.declared.value.Value.{Value}
use Rattle.pz_state.specs.pz_value.declared.value.Value.TheVariants as value
use Rattle.pz_state.specs.Objects.{ObjectView}
use Rattle.pz_state.specs.States.{StateView, object, nils, at_object, set_item}
use Rattle.pz_state.specs.References.{RefersWithin}
use Rattle.pz_copy.specs.References.{renumbered, renumbered_object}
use Rattle.pz_copy.specs.Unpacking.{shifted_values, shifted_objects}
use Rattle.pz_copy.specs.devices.Filling.{blank_of, filled, with_parts}

pub length_at_object : (r : ℕ) (change : List Value → List Value) (os : List ObjectView) → length (at_object r change os) ≡ length os
length_at_object r change [] = refl
length_at_object zero change (o ∷ os) = refl
length_at_object (suc r) change (o ∷ os) = ap suc (length_at_object r change os)

-- two changes of one object
pub at_object_twice : (r : ℕ) (f g : List Value → List Value) (os : List ObjectView) → at_object r f (at_object r g os) ≡ at_object r (λ items. f (g items)) os
at_object_twice r f g [] = refl
at_object_twice zero f g (o ∷ os) = refl
at_object_twice (suc r) f g (o ∷ os) = ap (λ l. o ∷ l) (at_object_twice r f g os)

abbrev pub none_such : ObjectView
none_such = record { class = record { 0 = 0 }; items = [] }

-- the items that it has
pub at_object_same : (r : ℕ) (items : List Value) (os : List ObjectView) → (unwrap_or (slice_get os r) none_such).items ≡ items → at_object r (λ _. items) os ≡ os
at_object_same r items [] e = refl
at_object_same zero items (o ∷ os) e = ap (λ (i : List Value). let p : ObjectView = record { class = o.class; items = i } in p ∷ os) (sym e)
at_object_same (suc r) items (o ∷ os) e = ap (λ l. o ∷ l) (at_object_same r items os e)

pub items_at_object : (r : ℕ) (items : List Value) (os : List ObjectView) → r < length os → (unwrap_or (slice_get (at_object r (λ _. items) os) r) none_such).items ≡ items
items_at_object r items [] h = absurd (omega arith)
items_at_object zero items (o ∷ os) h = refl
items_at_object (suc r) items (o ∷ os) h = items_at_object r items os (omega arith)

pub at_object_seam : (before : List ObjectView) (o : ObjectView) (after : List ObjectView) (change : List Value → List Value) → at_object (length before) change (before ++ o ∷ after) ≡ before ++ (let p : ObjectView = record { class = o.class; items = change o.items } in p) ∷ after
at_object_seam [] o after change = refl
at_object_seam (b ∷ bs) o after change = ap (λ l. b ∷ l) (at_object_seam bs o after change)

pub object_seam : (before : List ObjectView) (o : ObjectView) (after : List ObjectView) → unwrap_or (slice_get (before ++ o ∷ after) (length before)) none_such ≡ o
object_seam [] o after = refl
object_seam (b ∷ bs) o after = object_seam bs o after

-- the items that were given so far, and nil for the others
abbrev pub partly : ℕ → List Value → ℕ → List Value
partly count items given = shifted_values count (take given items) ++ nils (length items - given)

pub length_nils : (n : ℕ) → length (nils n) ≡ n
length_nils zero = refl
length_nils (suc n) = ap suc (length_nils n)

pub length_shifted : (count : ℕ) (items : List Value) → length (shifted_values count items) ≡ length items
length_shifted count [] = refl
length_shifted count (v ∷ vs) = ap suc (length_shifted count vs)

pub length_partly : (count : ℕ) (items : List Value) (given : ℕ) → given ≤ length items → length (partly count items given) ≡ length items
length_partly count [] zero h = refl
length_partly count [] (suc given) h = absurd (omega arith)
length_partly count (v ∷ vs) zero h = let all : suc (length vs) - 0 ≡ suc (length vs) = omega arith in rw all (ap suc (length_nils (length vs)))
length_partly count (v ∷ vs) (suc given) h = let same : suc (length vs) - suc given ≡ length vs - given = omega arith in rw same (ap suc (length_partly count vs given (omega arith)))

-- the next item is given
pub partly_next : (count : ℕ) (items : List Value) (given : ℕ) (v : Value) → given < length items → slice_get items given ≡ Some v → slice_set (partly count items given) given (renumbered (λ r. count + r) v) ≡ partly count items (suc given)
partly_next count [] given v h at = absurd (omega arith)
partly_next count (x ∷ xs) zero v h at = let same : x ≡ v = cc in let all : suc (length xs) - 0 ≡ suc (length xs) = omega arith in let one : suc (length xs) - 1 ≡ length xs = omega arith in rw (all, one) (ap (λ y. renumbered (λ r. count + r) y ∷ nils (length xs)) (sym same))
partly_next count (x ∷ xs) (suc given) v h at =
    let same : suc (length xs) - suc given ≡ length xs - given = omega arith in
    let more : suc (length xs) - suc (suc given) ≡ length xs - suc given = omega arith in
    rw (same, more) (ap (λ l. renumbered (λ r. count + r) x ∷ l) (partly_next count xs given v (omega arith) at))

pub partly_whole : (count : ℕ) (items : List Value) → partly count items (length items) ≡ shifted_values count items
partly_whole count [] = refl
partly_whole count (x ∷ xs) = let same : suc (length xs) - suc (length xs) ≡ length xs - length xs = omega arith in rw same (ap (λ l. renumbered (λ r. count + r) x ∷ l) (partly_whole count xs))

-- What is within bounds

length_take : (n : ℕ) (os : List ObjectView) → n ≤ length os → length (take n os) ≡ n
length_take zero os h = refl
length_take (suc n) [] h = absurd (omega arith)
length_take (suc n) (o ∷ os) h = ap suc (length_take n os (omega arith))

take_whole : (n : ℕ) (os : List ObjectView) → length os ≤ n → take n os ≡ os
take_whole zero [] h = refl
take_whole (suc n) [] h = refl
take_whole zero (o ∷ os) h = absurd (omega arith)
take_whole (suc n) (o ∷ os) h = ap (λ l. o ∷ l) (take_whole n os (omega arith))

pub shifted_within : (n count : ℕ) (v : Value) → RefersWithin (n - count) v → RefersWithin n (renumbered (λ r. count + r) v)
shifted_within n count (value.Ref r) h = omega (arith, h)
shifted_within n count value.Nil h = tt
shifted_within n count (value.Bool b) h = tt
shifted_within n count (value.Int i) h = tt
shifted_within n count (value.Char k) h = tt
shifted_within n count (value.Str t) h = tt

pub wider : (m n : ℕ) (v : Value) → m ≤ n → RefersWithin m v → RefersWithin n v
wider m n (value.Ref r) more h = omega (arith, h)
wider m n value.Nil more h = tt
wider m n (value.Bool b) more h = tt
wider m n (value.Int i) more h = tt
wider m n (value.Char k) more h = tt
wider m n (value.Str t) more h = tt

-- One object gets its items

pub fill_start : (s : StateView) (r count : ℕ) (items : List Value) → (object s r).items ≡ nils (length items) → s ≡ filled r (partly count items 0) s
fill_start s r count items blank =
    let all : length items - 0 ≡ length items = omega arith in
    let same : (object s r).items ≡ nils (length items - 0) = rw all blank in
    ap (λ (os : List ObjectView). let t : StateView = record s { objects = os } in t) (sym (at_object_same r (nils (length items - 0)) s.objects same))

pub fill_next : (s : StateView) (r count : ℕ) (items : List Value) (given : ℕ) (v : Value) → given < length items → v ≡ get_or items given v → set_item (filled r (partly count items given) s) r given (renumbered (λ n. count + n) v) ≡ filled r (partly count items (given + 1)) s
fill_next s r count items given v below e =
    let more : given + 1 ≡ suc given = omega arith in
    let at : slice_get items given ≡ Some v = slice_get-get_or items given v below ∙ ap (λ w. Some w) (sym e) in
    let step : slice_set (partly count items given) given (renumbered (λ n. count + n) v) ≡ partly count items (given + 1) = partly_next count items given v below at ∙ ap (partly count items) (sym more) in
    ap (λ (os : List ObjectView). let t : StateView = record s { objects = os } in t) (at_object_twice r (λ values. slice_set values given (renumbered (λ n. count + n) v)) (λ _. partly count items given) s.objects ∙ ap (λ a. at_object r (λ _. a) s.objects) step)

pub fill_whole : (s : StateView) (r count : ℕ) (items : List Value) (given : ℕ) → given ≡ length items → filled r (partly count items given) s ≡ filled r (shifted_values count items) s
fill_whole s r count items given e = ap (λ n. filled r (partly count items n) s) e ∙ ap (λ a. filled r a s) (partly_whole count items)

pub fill_has : (s : StateView) (r count : ℕ) (items : List Value) (given : ℕ) → r < length s.objects → given < length items → given < length (object (filled r (partly count items given) s) r).items
fill_has s r count items given there below =
    let has : (object (filled r (partly count items given) s) r).items ≡ partly count items given = items_at_object r (partly count items given) s.objects there in
    let long : length (partly count items given) ≡ length items = length_partly count items given (omega (arith, below)) in
    omega (arith, ap (λ (a : List Value). length a) has, long, below)

pub fill_long : (s : StateView) (r : ℕ) (items : List Value) → length (filled r items s).objects ≡ length s.objects
fill_long s r items = length_at_object r (λ _. items) s.objects

-- One object after the other gets its items

drop_next : (os : List ObjectView) (i : ℕ) (o : ObjectView) → slice_get os i ≡ Some o → drop i os ≡ o ∷ drop (suc i) os
drop_next [] i o h = cc
drop_next (p ∷ ps) zero o h = let same : p ≡ o = cc in ap (λ q. q ∷ ps) same
drop_next (p ∷ ps) (suc i) o h = drop_next ps i o h

taken_next : (os : List ObjectView) (i : ℕ) (o : ObjectView) → slice_get os i ≡ Some o → take (suc i) os ≡ take i os ++ o ∷ []
taken_next [] i o h = cc
taken_next (p ∷ ps) zero o h = let same : p ≡ o = cc in ap (λ q. q ∷ []) same
taken_next (p ∷ ps) (suc i) o h = ap (λ l. p ∷ l) (taken_next ps i o h)

module _ (s : StateView) (count : ℕ) (objects : List ObjectView) (long : length (take count s.objects) ≡ count) where
  -- what stands before the object that comes next
  abbrev pub done : ℕ → List ObjectView
  done given = take count s.objects ++ shifted_objects count (take given objects)

  length_done : (given : ℕ) → given ≤ length objects → length (done given) ≡ count + given
  length_done given few =
      let both : length (done given) ≡ length (take count s.objects) + length (shifted_objects count (take given objects)) = length-append (take count s.objects) (shifted_objects count (take given objects)) in
      let mapped : length (shifted_objects count (take given objects)) ≡ length (take given objects) = length-map (take given objects) (renumbered_object (λ r. count + r)) in
      let taken : length (take given objects) ≡ given = length_take given objects few in
      omega (arith, both, mapped, taken, long)

  parts_next_objects : (given : ℕ) (o : ObjectView) → slice_get objects given ≡ Some o → (with_parts s count given objects).objects ≡ done given ++ blank_of o ∷ map blank_of (drop (suc given) objects)
  parts_next_objects given o at =
      ap (λ l. take count s.objects ++ (shifted_objects count (take given objects) ++ map blank_of l)) (drop_next objects given o at)
      ∙ sym (append_assoc (take count s.objects) (shifted_objects count (take given objects)) (blank_of o ∷ map blank_of (drop (suc given) objects)))

  pub parts_start : s.objects ≡ take count s.objects ++ map blank_of objects → s ≡ with_parts s count 0 objects
  parts_start blank = ap (λ (os : List ObjectView). let t : StateView = record s { objects = os } in t) blank

  pub parts_length : (given : ℕ) → given ≤ length objects → length (with_parts s count given objects).objects ≡ count + length objects
  parts_length given few =
      let both : length (with_parts s count given objects).objects ≡ length (take count s.objects) + length (shifted_objects count (take given objects) ++ map blank_of (drop given objects)) = length-append (take count s.objects) (shifted_objects count (take given objects) ++ map blank_of (drop given objects)) in
      let two : length (shifted_objects count (take given objects) ++ map blank_of (drop given objects)) ≡ length (shifted_objects count (take given objects)) + length (map blank_of (drop given objects)) = length-append (shifted_objects count (take given objects)) (map blank_of (drop given objects)) in
      let first : length (shifted_objects count (take given objects)) ≡ length (take given objects) = length-map (take given objects) (renumbered_object (λ r. count + r)) in
      let second : length (map blank_of (drop given objects)) ≡ length (drop given objects) = length-map (drop given objects) blank_of in
      let taken : length (take given objects) ≡ given = length_take given objects few in
      let dropped : length (drop given objects) ≡ length objects - given = length-drop given objects in
      omega (arith, both, two, first, second, taken, dropped, long)

  pub parts_blank : (given : ℕ) (o : ObjectView) → slice_get objects given ≡ Some o → (object (with_parts s count given objects) (count + given)).items ≡ nils (length o.items)
  parts_blank given o at =
      let below : given < length objects = slice_get_within objects given o at in
      let place : length (done given) ≡ count + given = length_done given (omega (arith, below)) in
      ap (λ (os : List ObjectView). (unwrap_or (slice_get os (count + given)) none_such).items) (parts_next_objects given o at)
      ∙ ap (λ (n : ℕ). (unwrap_or (slice_get (done given ++ blank_of o ∷ map blank_of (drop (suc given) objects)) n) none_such).items) (sym place)
      ∙ ap (λ (p : ObjectView). p.items) (object_seam (done given) (blank_of o) (map blank_of (drop (suc given) objects)))

  done_next : (given : ℕ) (o : ObjectView) → slice_get objects given ≡ Some o → done (suc given) ≡ done given ++ renumbered_object (λ r. count + r) o ∷ []
  done_next given o at =
      ap (λ l. take count s.objects ++ l) (ap (shifted_objects count) (taken_next objects given o at) ∙ map-append (renumbered_object (λ r. count + r)) (take given objects) (o ∷ []))
      ∙ sym (append_assoc (take count s.objects) (shifted_objects count (take given objects)) (renumbered_object (λ r. count + r) o ∷ []))

  pub parts_next : (given : ℕ) (o : ObjectView) → slice_get objects given ≡ Some o → filled (count + given) (shifted_values count o.items) (with_parts s count given objects) ≡ with_parts s count (suc given) objects
  parts_next given o at =
      let below : given < length objects = slice_get_within objects given o at in
      let place : length (done given) ≡ count + given = length_done given (omega (arith, below)) in
      ap (λ (os : List ObjectView). let t : StateView = record s { objects = os } in t)
      (ap (at_object (count + given) (λ _. shifted_values count o.items)) (parts_next_objects given o at)
      ∙ ap (λ (n : ℕ). at_object n (λ _. shifted_values count o.items) (done given ++ blank_of o ∷ map blank_of (drop (suc given) objects))) (sym place)
      ∙ at_object_seam (done given) (blank_of o) (map blank_of (drop (suc given) objects)) (λ _. shifted_values count o.items)
      ∙ sym (append_assoc (done given) (renumbered_object (λ r. count + r) o ∷ []) (map blank_of (drop (suc given) objects)))
      ∙ ap (λ l. l ++ map blank_of (drop (suc given) objects)) (sym (done_next given o at))
      ∙ append_assoc (take count s.objects) (shifted_objects count (take (suc given) objects)) (map blank_of (drop (suc given) objects)))

  pub parts_whole : (given : ℕ) → length objects ≤ given → with_parts s count given objects ≡ record s { objects = take count s.objects ++ shifted_objects count objects }
  parts_whole given all =
      ap (λ (os : List ObjectView). let t : StateView = record s { objects = os } in t)
      (ap (λ l. take count s.objects ++ l)
      (ap (λ l. shifted_objects count (take given objects) ++ map blank_of l) (drop_of_length-le objects all)
      ∙ append-nil (shifted_objects count (take given objects))
      ∙ ap (shifted_objects count) (take_whole given objects all)))
