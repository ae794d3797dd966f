-- References in parcels are numbers of their objects, and stay so.
use Rattle.std.proofs.Common.{◌≡◌, refl, sym, ◌∙◌, ap, ap₂, subst, ℕ, suc, ◌+◌, ◌-◌, ◌^◌, ◌<◌, ◌≤◌, List, [], ◌∷◌, ◌++◌, length, map, take, get_or, Some, arith}
use Rattle.std.specs.Prelude.{All, slice_get}
use Rattle.std.proofs.Math.Seq.{take-suc, take-append_seam}
use Rattle.std.proofs.lemmas.List.{append_assoc, length-append, length-map, map-append}
use Rattle.std.proofs.lemmas.List.Elements.{All-cons, All-append}
use Rattle.pz_state.specs.States.{object_limit}
use Rattle.pz_state.specs.pz_value.declared.value.ClassId.{ClassId}
use Rattle.pz_state.specs.pz_value.declared.value.Value.{Value}
use Rattle.pz_state.specs.pz_value.declared.value.Value.TheVariants as value
use Rattle.pz_state.specs.Objects.{ObjectView, StoredObject}
use Rattle.pz_state.specs.States.{StateView, object, made}
use Rattle.pz_state.specs.References.{RefersWithin}
use Rattle.pz_copy.specs.References.{reference_of, references, IsIn, renumbered, renumbered_object}
use Rattle.pz_copy.specs.Parcels.{ParcelView, IsParcel, plain_objects}
use Rattle.pz_copy.specs.Packing.{place_in, packed_objects, IsListing, IsParcelOf}
use Rattle.pz_copy.specs.Unpacking.{shifted_values, shifted_objects, unpacked, unpacked_values}
use Rattle.pz_copy.specs.devices.Filling.{blank_of, with_blanks}
use Rattle.pz_copy.proofs.Gathered.{in_left, in_right, in_here}
use Rattle.pz_copy.proofs.Listings.{inside, take_next}
use Rattle.pz_copy.proofs.Renaming.{place_within}
use Rattle.pz_copy.proofs.Unpacked.{listed_values, listed_items}
use Rattle.pz_copy.proofs.Objects.{shifted_within, wider}

one_renumbered : (n : ℕ) (number : ℕ → ℕ) (v : Value) → ((r : ℕ) → IsIn r (reference_of v) → number r < n) → RefersWithin n (renumbered number v)
one_renumbered n number (value.Ref r) below = below r (in_here r [])
one_renumbered n number _ below = tt

all_renumbered : (n : ℕ) (number : ℕ → ℕ) (vs : List Value) → ((r : ℕ) → IsIn r (references vs) → number r < n) → All (RefersWithin n) (map (renumbered number) vs)
all_renumbered n number [] below = λ k d h. absurd (omega arith)
all_renumbered n number (v ∷ vs) below =
    All-cons (RefersWithin n) (renumbered number v) (map (renumbered number) vs)
    (one_renumbered n number v (λ r h. below r (in_left r (reference_of v) (references vs) h)))
    (all_renumbered n number vs (λ r h. below r (in_right r (reference_of v) (references vs) h)))

all_objects : (s : StateView) (n : ℕ) (number : ℕ → ℕ) (qs : List ℕ) → ((q r : ℕ) → IsIn q qs → IsIn r (inside s q) → number r < n) → All (λ o. All (RefersWithin n) o.items) (map (λ q. renumbered_object number (object s q)) qs)
all_objects s n number [] below = λ k d h. absurd (omega arith)
all_objects s n number (q ∷ qs) below =
    All-cons (λ o. All (RefersWithin n) o.items) (renumbered_object number (object s q)) (map (λ p. renumbered_object number (object s p)) qs)
    (all_renumbered n number (object s q).items (λ r h. below q r (in_here q qs) h))
    (all_objects s n number qs (λ p r hp h. below p r (in_right p (q ∷ []) qs hp) h))

-- what is packed is a parcel
pub parcel_fine : (s : StateView) (vs : List Value) (listed : List ℕ) → IsListing s vs listed → (values : List Value) (objects : List ObjectView) → values ≡ map (renumbered (place_in listed)) vs → objects ≡ packed_objects s listed → length listed ≤ object_limit → All (λ o. length o.items < 2 ^ 32) objects → IsParcel (record { values = values; objects = objects })
parcel_fine s vs listed is_one values objects values_are objects_are few sizes =
    let long : length objects ≡ length listed = ap (λ (os : List ObjectView). length os) objects_are ∙ length-map listed (λ r. renumbered_object (place_in listed) (object s r)) in
    let in_values : All (RefersWithin (length listed)) (map (renumbered (place_in listed)) vs) = all_renumbered (length listed) (place_in listed) vs (λ r h. place_within listed r (listed_values s vs listed is_one r h)) in
    let in_objects : All (λ o. All (RefersWithin (length listed)) o.items) (packed_objects s listed) = all_objects s (length listed) (place_in listed) listed (λ q r hq h. place_within listed r (listed_items s vs listed is_one q r hq h)) in
    record {
      values = subst (λ (n : ℕ). All (RefersWithin n) values) (sym long) (subst (All (RefersWithin (length listed))) (sym values_are) in_values);
      items = subst (λ (n : ℕ). All (λ o. All (RefersWithin n) o.items) objects) (sym long) (subst (All (λ o. All (RefersWithin (length listed)) o.items)) (sym objects_are) in_objects);
      few = omega (arith, long, few);
      sizes = sizes;
    }

-- Values that lead to no object

unrenumbered : (number : ℕ → ℕ) (v : Value) → ((r : ℕ) → IsIn r (reference_of v) → ⊥) → renumbered number v ≡ v
unrenumbered number (value.Ref r) none = absurd (none r (in_here r []))
unrenumbered number _ none = refl

none_renumbered : (number : ℕ → ℕ) (vs : List Value) → ((r : ℕ) → IsIn r (references vs) → ⊥) → map (renumbered number) vs ≡ vs
none_renumbered number [] none = refl
none_renumbered number (v ∷ vs) none =
    ap₂ (λ (w : Value) (ws : List Value). w ∷ ws)
    (unrenumbered number v (λ r h. none r (in_left r (reference_of v) (references vs) h)))
    (none_renumbered number vs (λ r h. none r (in_right r (reference_of v) (references vs) h)))

alone : (s : StateView) (vs : List Value) → IsListing s vs [] → map (renumbered (place_in [])) vs ≡ vs
alone s vs is_one = none_renumbered (place_in []) vs (λ r h. let in_none : IsIn r [] = listed_values s vs [] is_one r h in cc)

nothing_listed : (listed : List ℕ) → length listed ≡ 0 → listed ≡ []
nothing_listed [] none = refl
nothing_listed (r ∷ rs) none = absurd (omega (arith, none))

pub alone_fine : (s : StateView) (vs : List Value) (listed : List ℕ) → IsListing s vs listed → length listed ≡ 0 → IsParcel (record { values = vs; objects = [] })
alone_fine s vs listed is_one none =
    let nothing : IsListing s vs [] = subst (IsListing s vs) (nothing_listed listed none) is_one in
    parcel_fine s vs [] nothing vs [] (sym (alone s vs nothing)) refl (omega arith) (λ k d h. absurd (omega arith))

pub packed_alone : (s : StateView) (vs : List Value) (listed : List ℕ) → IsListing s vs listed → length listed ≡ 0 → (p : ParcelView) → p ≡ record { values = vs; objects = [] } → IsParcelOf s vs p
packed_alone s vs listed is_one none p is =
    let nothing : IsListing s vs [] = subst (IsListing s vs) (nothing_listed listed none) is_one in
    record {
      listed = [];
      listing = nothing;
      values = ap (λ (q : ParcelView). q.values) is ∙ sym (alone s vs nothing);
      objects = ap (λ (q : ParcelView). q.objects) is;
    }

pub all_wider : (m n : ℕ) (vs : List Value) → m ≤ n → All (RefersWithin m) vs → All (RefersWithin n) vs
all_wider m n vs more all = λ k d below. wider m n (get_or vs k d) more (all k d below)

pub all_shifted : (count n total : ℕ) (vs : List Value) → total ≡ count + n → All (RefersWithin n) vs → All (RefersWithin total) (shifted_values count vs)
all_shifted count n total [] e all = λ k d h. absurd (omega arith)
all_shifted count n total (v ∷ vs) e all =
    let less : total - count ≡ n = omega (arith, e) in
    let first : RefersWithin n v = all 0 v (omega arith) in
    All-cons (RefersWithin total) (renumbered (λ r. count + r) v) (shifted_values count vs)
    (shifted_within total count v (subst (λ (k : ℕ). RefersWithin k v) (sym less) first))
    (all_shifted count n total vs e (λ k d h. all (suc k) d (omega (arith, h))))

-- Objects without values

pub blanks_next : (s : StateView) (objects : List StoredObject) (i : ℕ) (o : StoredObject) → i < length objects → o ≡ get_or objects i o → made (with_blanks s (plain_objects (take i objects))) o.object.class (length o.object.items) ≡ with_blanks s (plain_objects (take (i + 1) objects))
blanks_next s objects i o below is =
    let more : i + 1 ≡ suc i = omega arith in
    let taken : take (i + 1) objects ≡ take i objects ++ o ∷ [] = ap (λ n. take n objects) more ∙ take-suc objects i o below ∙ ap (λ (p : StoredObject). take i objects ++ p ∷ []) (sym is) in
    let all : map blank_of (plain_objects (take (i + 1) objects)) ≡ map blank_of (plain_objects (take i objects)) ++ blank_of o.object ∷ [] =
    ap (λ (l : List StoredObject). map blank_of (plain_objects l)) taken ∙ ap (map blank_of) (map-append (λ (p : StoredObject). p.object) (take i objects) (o ∷ [])) ∙ map-append blank_of (plain_objects (take i objects)) (o.object ∷ []) in
    ap (λ (os : List ObjectView). let t : StateView = record s { objects = os } in t)
    (append_assoc s.objects (map blank_of (plain_objects (take i objects))) (blank_of o.object ∷ []) ∙ ap (λ l. s.objects ++ l) (sym all))

pub blanks_length : (s : StateView) (objects : List ObjectView) → length (with_blanks s objects).objects ≡ length s.objects + length objects
blanks_length s objects = length-append s.objects (map blank_of objects) ∙ ap (λ n. length s.objects + n) (length-map objects blank_of)

pub blanks_front : (s : StateView) (objects : List ObjectView) (count : ℕ) → count ≡ length s.objects → take count (with_blanks s objects).objects ≡ s.objects
blanks_front s objects count e = ap (λ n. take n (s.objects ++ map blank_of objects)) e ∙ take-append_seam s.objects (map blank_of objects)

-- Objects that are packed one after the other

pub packed_is : (keys : List ℕ) (new : ObjectView) (class : ClassId) (items source : List Value) (stored o : ObjectView) → new ≡ record { class = class; items = items } → class ≡ stored.class → items ≡ map (renumbered (place_in keys)) source → source ≡ stored.items → stored ≡ o → new ≡ renumbered_object (place_in keys) o
packed_is keys new class items source stored o new_is class_is items_are source_is stored_is =
    new_is
    ∙ ap (λ (k : ClassId). let p : ObjectView = record { class = k; items = items } in p) class_is
    ∙ ap (λ (i : List Value). let p : ObjectView = record { class = stored.class; items = i } in p) (items_are ∙ ap (map (renumbered (place_in keys))) source_is)
    ∙ ap (renumbered_object (place_in keys)) stored_is

take_one : (keys : List ℕ) (place r : ℕ) → slice_get keys place ≡ Some r → take (place + 1) keys ≡ take place keys ++ r ∷ []
take_one keys place r at = let more : place + 1 ≡ suc place = omega arith in ap (λ n. take n keys) more ∙ take_next keys place r at

pub packed_next : (s : StateView) (keys : List ℕ) (objects new : List StoredObject) (place r : ℕ) (o : StoredObject) → slice_get keys place ≡ Some r → plain_objects objects ≡ map (λ q. renumbered_object (place_in keys) (object s q)) (take place keys) → o.object ≡ renumbered_object (place_in keys) (object s r) → new ≡ objects ++ o ∷ [] → plain_objects new ≡ map (λ q. renumbered_object (place_in keys) (object s q)) (take (place + 1) keys)
packed_next s keys objects new place r o at so_far is new_is =
    ap plain_objects new_is
    ∙ map-append (λ (p : StoredObject). p.object) objects (o ∷ [])
    ∙ ap (λ (l : List ObjectView). l ++ o.object ∷ []) so_far
    ∙ ap (λ (p : ObjectView). map (λ q. renumbered_object (place_in keys) (object s q)) (take place keys) ++ p ∷ []) is
    ∙ sym (ap (map (λ q. renumbered_object (place_in keys) (object s q))) (take_one keys place r at) ∙ map-append (λ q. renumbered_object (place_in keys) (object s q)) (take place keys) (r ∷ []))

pub plain_push : (P : ObjectView → Type 0) (objects new : List StoredObject) (o : StoredObject) → All P (plain_objects objects) → P o.object → new ≡ objects ++ o ∷ [] → All P (plain_objects new)
plain_push P objects new o all one new_is =
    let parts : plain_objects new ≡ plain_objects objects ++ o.object ∷ [] = ap plain_objects new_is ∙ map-append (λ (p : StoredObject). p.object) objects (o ∷ []) in
    subst (All P) (sym parts) (All-append P (plain_objects objects) (o.object ∷ []) all (All-cons P o.object [] one (λ k d h. absurd (omega arith))))

pub packed_length : (keys : List ℕ) (o : ObjectView) → length (renumbered_object (place_in keys) o).items ≡ length o.items
packed_length keys o = length-map o.items (renumbered (place_in keys))

-- the values of an unpacked parcel
pub unpacked_within : (t u : StateView) (p : ParcelView) (copies : List Value) → u ≡ unpacked t p → copies ≡ unpacked_values t p → IsParcel p → All (RefersWithin (length u.objects)) copies
unpacked_within t u p copies u_is copies_are fine =
    let long : length u.objects ≡ length t.objects + length p.objects = ap (λ (w : StateView). length w.objects) u_is ∙ length-append t.objects (shifted_objects (length t.objects) p.objects) ∙ ap (λ n. length t.objects + n) (length-map p.objects (renumbered_object (λ r. length t.objects + r))) in
    subst (All (RefersWithin (length u.objects))) (sym copies_are) (all_shifted (length t.objects) (length p.objects) (length u.objects) p.values long fine.values)
