-- What is unpacked is what was packed, under other numbers.
use Rattle.std.proofs.Common.{◌≡◌, refl, sym, ◌∙◌, ap, subst, ℕ, zero, suc, ◌+◌, inl, inr, List, [], ◌∷◌, ◌++◌, length, map, Option, Some, arith}
use Rattle.std.specs.Prelude.{slice_get, unwrap_or}
use Rattle.std.specs.List.{flat_map}
use Rattle.pz_state.specs.pz_value.declared.value.Value.{Value}
use Rattle.pz_state.specs.pz_value.declared.value.Value.TheVariants as value
use Rattle.pz_state.specs.Objects.{ObjectView}
use Rattle.pz_state.specs.States.{StateView, object}
use Rattle.pz_copy.specs.References.{references, IsIn, renumbered, renumbered_object}
use Rattle.pz_copy.specs.Parcels.{ParcelView}
use Rattle.pz_copy.specs.Packing.{mentioned, place_in, IsListing, IsParcelOf}
use Rattle.pz_copy.specs.Unpacking.{unpacked, unpacked_values, shifted_objects}
use Rattle.pz_copy.specs.Sharing.{Reachable, named, further, SameUpToNumbers}
use Rattle.pz_copy.proofs.Gathered.{in_left, in_right, in_head_cases, gathers, gathered_firsts}
use Rattle.pz_copy.proofs.Listings.{inside}
use Rattle.pz_copy.proofs.Renaming.{at_place, place_once, renumbered_in, in_renumbered}

get_behind : (xs ys : List ObjectView) (i : ℕ) → slice_get (xs ++ ys) (length xs + i) ≡ slice_get ys i
get_behind [] ys i = let same : 0 + i ≡ i = omega arith in rw same refl
get_behind (x ∷ xs) ys i = let same : suc (length xs) + i ≡ suc (length xs + i) = omega arith in rw same (get_behind xs ys i)

get_map : {A B : Type 0} (f : A → B) (xs : List A) (i : ℕ) (x : A) → slice_get xs i ≡ Some x → slice_get (map f xs) i ≡ Some (f x)
get_map f [] i x h = cc
get_map f (y ∷ ys) zero x h = let same : y ≡ x = cc in ap (λ z. Some (f z)) same
get_map f (y ∷ ys) (suc i) x h = get_map f ys i x h

renumbered_twice : (f g : ℕ → ℕ) (v : Value) → renumbered f (renumbered g v) ≡ renumbered (λ r. f (g r)) v
renumbered_twice f g (value.Ref r) = refl
renumbered_twice f g _ = refl

pub values_twice : (f g : ℕ → ℕ) (vs : List Value) → map (renumbered f) (map (renumbered g) vs) ≡ map (renumbered (λ r. f (g r))) vs
values_twice f g [] = refl
values_twice f g (v ∷ vs) = let one : renumbered f (renumbered g v) ≡ renumbered (λ r. f (g r)) v = renumbered_twice f g v in let rest : map (renumbered f) (map (renumbered g) vs) ≡ map (renumbered (λ r. f (g r))) vs = values_twice f g vs in rw (one, rest) refl

object_twice : (f g : ℕ → ℕ) (o : ObjectView) → renumbered_object f (renumbered_object g o) ≡ renumbered_object (λ r. f (g r)) o
object_twice f g o = ap (λ (i : List Value). let p : ObjectView = record { class = o.class; items = i } in p) (values_twice f g o.items)

in_flat : (s : StateView) (qs : List ℕ) (q r : ℕ) → IsIn q qs → IsIn r (inside s q) → IsIn r (flat_map (inside s) qs)
in_flat s [] q r hq hr = cc
in_flat s (x ∷ xs) q r hq hr =
    elim (in_head_cases q x xs hq) [
      | inl e ↦ in_left r (inside s x) (flat_map (inside s) xs) (subst (λ (y : ℕ). IsIn r (inside s y)) e hr)
      | inr later ↦ in_right r (inside s x) (flat_map (inside s) xs) (in_flat s xs q r later hr)
    ]

module _ (s : StateView) (vs : List Value) where
  listed_all : (listed : List ℕ) → IsListing s vs listed → (r : ℕ) → IsIn r (mentioned s vs listed) → IsIn r listed
  listed_all listed is_one r h = subst (IsIn r) (gathered_firsts (mentioned s vs listed) ∙ sym is_one.equation) (gathers (mentioned s vs listed) [] r h)

  pub listed_values : (listed : List ℕ) → IsListing s vs listed → (r : ℕ) → IsIn r (references vs) → IsIn r listed
  listed_values listed is_one r h = listed_all listed is_one r (in_left r (references vs) (flat_map (inside s) listed) h)

  pub listed_items : (listed : List ℕ) → IsListing s vs listed → (q r : ℕ) → IsIn q listed → IsIn r (inside s q) → IsIn r listed
  listed_items listed is_one q r hq h = listed_all listed is_one r (in_right r (references vs) (flat_map (inside s) listed) (in_flat s listed q r hq h))

  -- every object that is reached is listed
  pub reached_listed : (listed : List ℕ) → IsListing s vs listed → (r : ℕ) → Reachable s vs r → IsIn r listed
  reached_listed listed is_one _ (named r h) = listed_values listed is_one r h
  reached_listed listed is_one _ (further q r reach h) = listed_items listed is_one q r (reached_listed listed is_one q reach) h

module _ (s : StateView) (vs : List Value) (p : ParcelView) (t : StateView) (made : IsParcelOf s vs p) where
  abbrev number : ℕ → ℕ
  number r = length t.objects + place_in made.listed r

  same_values : unpacked_values t p ≡ map (renumbered number) vs
  same_values = ap (map (renumbered (λ r. length t.objects + r))) made.values ∙ values_twice (λ r. length t.objects + r) (place_in made.listed) vs

  same_object : (r : ℕ) → IsIn r made.listed → object (unpacked t p) (number r) ≡ renumbered_object number (object s r)
  same_object r there =
      let place : slice_get made.listed (place_in made.listed r) ≡ Some r = at_place made.listed r there in
      let packed : slice_get p.objects (place_in made.listed r) ≡ Some (renumbered_object (place_in made.listed) (object s r)) = ap (λ l. slice_get l (place_in made.listed r)) made.objects ∙ get_map (λ q. renumbered_object (place_in made.listed) (object s q)) made.listed (place_in made.listed r) r place in
      let behind : slice_get (unpacked t p).objects (number r) ≡ Some (renumbered_object (λ q. length t.objects + q) (renumbered_object (place_in made.listed) (object s r))) = get_behind t.objects (shifted_objects (length t.objects) p.objects) (place_in made.listed r) ∙ get_map (renumbered_object (λ q. length t.objects + q)) p.objects (place_in made.listed r) (renumbered_object (place_in made.listed) (object s r)) packed in
      ap (λ (o : Option ObjectView). unwrap_or o (record { class = record { 0 = 0 }; items = [] })) behind ∙ object_twice (λ q. length t.objects + q) (place_in made.listed) (object s r)

  listed_here : (r : ℕ) → Reachable s vs r → IsIn r made.listed
  listed_here r reach = reached_listed s vs made.listed made.listing r reach

  go_in : (r : ℕ) → Reachable s vs r → Reachable (unpacked t p) (unpacked_values t p) (number r)
  go_in _ (named r h) = named (number r) (subst (λ (l : List Value). IsIn (number r) (references l)) (sym same_values) (renumbered_in number vs r h))
  go_in _ (further q r reach h) =
      further (number q) (number r) (go_in q reach)
      (subst (λ (o : ObjectView). IsIn (number r) (references o.items)) (sym (same_object q (listed_here q reach))) (renumbered_in number (object s q).items r h))

  come_from : (k : ℕ) → Reachable (unpacked t p) (unpacked_values t p) k → (r : ℕ) × Reachable s vs r × (number r ≡ k)
  come_from _ (named k h) =
      let found = in_renumbered number vs k (subst (λ (l : List Value). IsIn k (references l)) same_values h) in
      (found.0, named found.0 found.1, found.2)
  come_from _ (further q k reach h) =
      let from = come_from q reach in
      let there : IsIn k (references (object (unpacked t p) (number from.0)).items) = subst (λ (n : ℕ). IsIn k (references (object (unpacked t p) n).items)) (sym from.2) h in
      let found = in_renumbered number (object s from.0).items k (subst (λ (o : ObjectView). IsIn k (references o.items)) (same_object from.0 (listed_here from.0 from.1)) there) in
      (found.0, further from.0 found.0 from.1 found.1, found.2)

  pub unpacked_same : SameUpToNumbers s vs (unpacked t p) (unpacked_values t p)
  unpacked_same = record {
    number = number;
    one_to_one = λ q r hq hr e. place_once made.listed q r (listed_here q hq) (listed_here r hr) (omega (arith, e));
    values = same_values;
    objects = λ r reach. same_object r (listed_here r reach);
    into = go_in;
    onto = come_from;
  }

-- the same, wherever what is unpacked is at hand by other names
pub same_for : (s : StateView) (vs : List Value) (p : ParcelView) (t u : StateView) (copies : List Value) → u ≡ unpacked t p → copies ≡ unpacked_values t p → IsParcelOf s vs p → SameUpToNumbers s vs u copies
same_for s vs p t u copies u_is copies_are made =
    subst (λ (w : StateView). SameUpToNumbers s vs w copies) (sym u_is)
    (subst (λ (l : List Value). SameUpToNumbers s vs (unpacked t p) l) (sym copies_are) (unpacked_same s vs p t made))
