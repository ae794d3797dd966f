-- Values of literals in parcels: they have no references, so there are no objects with them.
use Rattle.std.proofs.Common.{◌≡◌, ◌+◌, ℕ, zero, suc, true, false, List, [], ◌∷◌, ◌++◌, length, map, replicate, Some, All, slice_get, refl, sym, ap, ◌∙◌, length-append}
use Rattle.std.specs.List.{list_any}
use Rattle.std.specs.Prelude.{nat_eq}
use Rattle.std.proofs.lemmas.List.{length-map}
use Rattle.std.proofs.lemmas.List.Elements.{All-head, All-tail}
use Rattle.pz_env_tree.specs.pz_value.declared.value.Value.{Value}
use Rattle.pz_env_tree.specs.pz_value.declared.value.Value.TheVariants as value
use Rattle.pz_env_tree.specs.pz_classes_code.declared.slot.Slot.{Slot}
use Rattle.pz_env_tree.specs.pz_classes_code.declared.slot.Slot.TheVariants.{Shared}
use Rattle.pz_env_tree.specs.pz_state.Objects.{ObjectView}
use Rattle.pz_env_tree.specs.pz_state.States.{StateView}
use Rattle.pz_env_tree.specs.pz_copy.References.{reference_of, references, renumbered, renumbered_object}
use Rattle.pz_env_tree.specs.pz_copy.Parcels.{ParcelView}
use Rattle.pz_env_tree.specs.pz_copy.Packing.{firsts, mentioned, place_in, packed_objects, IsListing, IsParcelOf}
use Rattle.pz_env_tree.specs.pz_copy.Unpacking.{shifted_objects, unpacked, unpacked_values}
use Rattle.pz_eval_binding.specs.Binding as binding
use Rattle.pz_eval_binding.specs.Binding.{set_slots, set_slot}
use Rattle.pz_env_tree.specs.pz_rules.Messages.{variables_of}
use Rattle.pz_env_tree.specs.EnvironmentClass.{unless_none}
use Rattle.pz_env_mimics.proofs.Literals.{IsConstant}

-- No references

nil_apart : (r : ℕ) → value.Nil ≡ value.Ref r → ⊥
nil_apart r e = cc

pub value_stays : (number : ℕ → ℕ) (v : Value) → IsConstant v → renumbered number v ≡ v
value_stays number value.Nil is = refl
value_stays number (value.Bool b) is = refl
value_stays number (value.Int n) is = refl
value_stays number (value.Char b) is = refl
value_stays number (value.Str text) is = refl
value_stays number (value.Ref r) is = absurd (nil_apart r is)

no_reference : (v : Value) → IsConstant v → reference_of v ≡ []
no_reference value.Nil is = refl
no_reference (value.Bool b) is = refl
no_reference (value.Int n) is = refl
no_reference (value.Char b) is = refl
no_reference (value.Str text) is = refl
no_reference (value.Ref r) is = absurd (nil_apart r is)

pub values_stay : (number : ℕ → ℕ) (values : List Value) → All IsConstant values → map (renumbered number) values ≡ values
values_stay number [] plain = refl
values_stay number (v ∷ vs) plain =
    ap (λ (x : Value). x ∷ map (renumbered number) vs) (value_stays number v (All-head IsConstant v vs plain))
    ∙ ap (λ (xs : List Value). v ∷ xs) (values_stay number vs (All-tail IsConstant v vs plain))

no_references : (values : List Value) → All IsConstant values → references values ≡ []
no_references [] plain = refl
no_references (v ∷ vs) plain =
    ap (λ (xs : List ℕ). xs ++ references vs) (no_reference v (All-head IsConstant v vs plain))
    ∙ no_references vs (All-tail IsConstant v vs plain)

-- Parcels

module _ (s : StateView) (values : List Value) (plain : All IsConstant values) where
  nothing_mentioned : mentioned s values [] ≡ []
  nothing_mentioned = ap (λ (xs : List ℕ). xs ++ []) (no_references values plain)

  none_there : (i r : ℕ) → slice_get {X = ℕ} [] i ≡ Some r → ⊥
  none_there i r e = cc

  pub plain_parcel : IsParcelOf s values (record { values = values; objects = [] })
  plain_parcel = record {
    listed = [];
    listing = record {
      equation = ap firsts (sym nothing_mentioned);
      grounded = λ i r e. absurd (none_there i r e);
    };
    values = sym (values_stay (place_in []) values plain);
    objects = refl;
  }

  nothing_listed : (listed : List ℕ) → IsListing s values listed → listed ≡ []
  nothing_listed [] is = refl
  nothing_listed (r ∷ rs) is =
      absurd (false_true (ap (list_any (nat_eq r)) (sym nothing_mentioned) ∙ is.grounded 0 r refl))
    where
      false_true : false ≡ true → ⊥
      false_true e = cc

  parcel_of : (p : ParcelView) (vs : List Value) (os : List ObjectView) → p.values ≡ vs → p.objects ≡ os → p ≡ record { values = vs; objects = os }
  parcel_of p vs os is are =
      ap (λ (xs : List Value). let q : ParcelView = record { values = xs; objects = p.objects } in q) is
      ∙ ap (λ (xs : List ObjectView). let q : ParcelView = record { values = vs; objects = xs } in q) are

  pub only_plain_parcel : (p : ParcelView) → IsParcelOf s values p → p ≡ record { values = values; objects = [] }
  only_plain_parcel p is =
      parcel_of p values []
      (is.values ∙ values_stay (place_in is.listed) values plain)
      (is.objects ∙ ap (packed_objects s) (nothing_listed is.listed is.listing))

-- What is received goes into the one variable

pub count_of : (count : ℕ) (x : Slot) → length (variables_of (unless_none (replicate count x))) ≡ count
count_of zero x = refl
count_of (suc n) x = ap suc (long n)
  where
    long : (k : ℕ) → length (replicate k x) ≡ k
    long zero = refl
    long (suc k) = ap suc (long k)

into_one : (f k : ℕ) (values : List Value) (s : StateView) → (set_slots f (replicate k (Shared 0)) values s).objects ≡ s.objects
into_one f zero values s = refl
into_one f (suc k) [] s = refl
into_one f (suc k) (v ∷ vs) s = into_one f k vs (set_slot f (Shared 0) v s)

slots_of : (count : ℕ) (x : Slot) → variables_of (unless_none (replicate count x)) ≡ replicate count x
slots_of zero x = refl
slots_of (suc n) x = refl

pub bound_objects : (f count : ℕ) (parcel : ParcelView) (s : StateView)
    → length (binding.bound f (variables_of (unless_none (replicate count (Shared 0)))) parcel s).objects ≡ length s.objects + length parcel.objects
bound_objects f count parcel s =
    ap (λ (xs : List Slot). length (set_slots f xs (unpacked_values s parcel) (unpacked s parcel)).objects) (slots_of count (Shared 0))
    ∙ ap (λ (os : List ObjectView). length os) (into_one f count (unpacked_values s parcel) (unpacked s parcel))
    ∙ length-append s.objects (shifted_objects (length s.objects) parcel.objects)
    ∙ ap (λ (k : ℕ). length s.objects + k) (length-map parcel.objects (renumbered_object (λ r. length s.objects + r)))
