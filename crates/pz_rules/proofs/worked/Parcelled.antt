-- The parcel of values, computed.
use Rattle.std.proofs.Common.{◌≡◌, ℕ, zero, suc, List, [], map, length, Option, Some, None, refl, subst, sym, ◌∙◌}
use Rattle.std.specs.Prelude.{slice_get}
use Rattle.pz_bind_rules.specs.pz_value.declared.value.Value.{Value}
use Rattle.pz_offer.specs.pz_state.States.{StateView}
use Rattle.pz_offer.specs.pz_copy.References.{references, renumbered}
use Rattle.pz_offer.specs.pz_copy.Parcels.{ParcelView}
use Rattle.pz_offer.specs.pz_copy.Packing.{IsListing, place_in, packed_objects, IsParcelOf}
use Rattle.pz_offer.specs.pz_copy.devices.Gathering.{gathered, IsGathered}
use Rattle.pz_offer.proofs.pz_copy_proofs.Listings.{inside, begun, gathered_on, gathered_whole}
use Rattle.pz_rules.proofs.Locals.{some_is, no_some}
use Rattle.pz_rules.proofs.Parcels.{past, the_parcel, parcel_is, parcel_once}

-- whether all that is listed was looked at
abbrev or_whole : Option ℕ → List ℕ → (ℕ → Option (List ℕ)) → Option (List ℕ)
or_whole None listed go_on = Some listed
or_whole (Some r) listed go_on = go_on r

-- the objects that a parcel has, in at most so many turns
abbrev listed_by : ℕ → StateView → ℕ → List ℕ → Option (List ℕ)
listed_by zero s next listed = None
listed_by (suc turns) s next listed = or_whole (slice_get listed next) listed (λ r. listed_by turns s (suc next) (gathered listed (inside s r)))

module _ (s : StateView) (values : List Value) where
  listed_is : (turns next : ℕ) (listed all : List ℕ) → IsGathered s values next listed → listed_by turns s next listed ≡ Some all → IsListing s values all
  listed_is zero next listed all g is = no_some is
  listed_is (suc turns) next listed all g is = by (slice_get listed next) refl is (λ r at more. listed_is turns (suc next) (gathered listed (inside s r)) all (gathered_on s values next listed r g at) more)
    where
      by : (o : Option ℕ) → slice_get listed next ≡ o → or_whole o listed (λ r. listed_by turns s (suc next) (gathered listed (inside s r))) ≡ Some all
          → ((r : ℕ) → slice_get listed next ≡ Some r → listed_by turns s (suc next) (gathered listed (inside s r)) ≡ Some all → IsListing s values all) → IsListing s values all
      by None at found later = subst (IsListing s values) (some_is found) (gathered_whole s values next listed g (past listed next at))
      by (Some r) at found later = later r at found

  abbrev parcel_by : Option (List ℕ) → ParcelView
  parcel_by None = the_parcel s values
  parcel_by (Some listed) = record { values = map (renumbered (place_in listed)) values; objects = packed_objects s listed }

  abbrev listing : Option (List ℕ)
  listing = listed_by (suc (suc (length s.objects))) s 0 (gathered [] (references values))

  abbrev pub parcel : ParcelView
  parcel = parcel_by listing

  parcel_found : (o : Option (List ℕ)) → listing ≡ o → IsParcelOf s values (parcel_by o)
  parcel_found None is = parcel_is s values
  parcel_found (Some listed) is = record { listed = listed; listing = listed_is (suc (suc (length s.objects))) 0 (gathered [] (references values)) listed (begun s values) is; values = refl; objects = refl }

  pub parcel_holds : IsParcelOf s values parcel
  parcel_holds = parcel_found listing refl

  pub parcel_only : (p : ParcelView) → IsParcelOf s values p → p ≡ parcel
  parcel_only p x = parcel_once s values p x ∙ sym (parcel_once s values parcel parcel_holds)
