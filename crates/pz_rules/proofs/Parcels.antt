-- In every state, values have one parcel.
use Rattle.std.proofs.Common.{◌≡◌, refl, sym, ◌∙◌, ap, subst, ℕ, zero, suc, ◌+◌, ◌<◌, ◌≤◌, inl, inr, max, List, [], ◌∷◌, ◌++◌, length, map, take, drop, Option, Some, None, arith}
use Rattle.std.specs.Prelude.{nat_eq, slice_get, unwrap_or}
use Rattle.std.specs.List.{flat_map, IsDistinct}
use Rattle.std.proofs.Math.Seq.{take-append_seam}
use Rattle.std.proofs.lemmas.Grind.{flat_map-append}
use Rattle.std.proofs.lemmas.List.{append-nil, append_assoc, take-append-le, take-append-drop}
use Rattle.std.proofs.lemmas.Option.{slice_get_within}
use Rattle.std.proofs.lemmas.Map.Steps.{length-le_from_distinct_below}
use Rattle.pz_bind_rules.specs.pz_value.declared.value.Value.{Value}
use Rattle.pz_offer.specs.pz_state.Objects.{ObjectView}
use Rattle.pz_offer.specs.pz_state.States.{StateView, no_object}
use Rattle.pz_offer.specs.pz_copy.References.{references, IsIn, renumbered}
use Rattle.pz_offer.specs.pz_copy.Parcels.{ParcelView}
use Rattle.pz_offer.specs.pz_copy.Packing.{mentioned, IsListing, HasOneListing, place_in, packed_objects, IsParcelOf}
use Rattle.pz_offer.specs.pz_copy.devices.Gathering.{gathered, IsGathered}
use Rattle.pz_offer.proofs.pz_copy_proofs.Gathered.{in_left, in_right, in_cases, in_head_cases, gathered_firsts, gathered_more, gathered_append, gathers, gathers_only, gathered_distinct, nothing_distinct, seam_distinct}
use Rattle.pz_offer.proofs.pz_copy_proofs.Listings.{inside, begun, gathered_on, gathered_whole}

at_seam : (xs : List ℕ) (r : ℕ) (ys : List ℕ) → slice_get (xs ++ r ∷ ys) (length xs) ≡ Some r
at_seam [] r ys = refl
at_seam (x ∷ xs) r ys = at_seam xs r ys

pub past : (xs : List ℕ) (i : ℕ) → slice_get xs i ≡ None → length xs ≤ i
past [] i e = omega arith
past (x ∷ xs) zero e = cc
past (x ∷ xs) (suc i) e = let rest : length xs ≤ i = past xs i e in omega arith

-- a number above all of these
abbrev above : List ℕ → ℕ
above [] = 0
above (n ∷ ns) = max (suc n) (above ns)

is_below : (ns : List ℕ) (r : ℕ) → IsIn r ns → r < above ns
is_below [] r h = cc
is_below (n ∷ ns) r h = elim (in_head_cases r n ns h) [ inl same ↦ omega (arith, same) | inr later ↦ omega (arith, is_below ns r later) ]

object_in : (os : List ObjectView) (q r : ℕ) → IsIn r (references (unwrap_or (slice_get os q) no_object).items) → IsIn r (flat_map (λ o. references o.items) os)
object_in [] q r h = cc
object_in (o ∷ os) zero r h = in_left r (references o.items) (flat_map (λ p. references p.items) os) h
object_in (o ∷ os) (suc q) r h = in_right r (references o.items) (flat_map (λ p. references p.items) os) (object_in os q r h)

module _ (s : StateView) (values : List Value) where
  mentioned_append : (xs ys : List ℕ) → mentioned s values (xs ++ ys) ≡ mentioned s values xs ++ flat_map (inside s) ys
  mentioned_append xs ys = ap (λ l. references values ++ l) (flat_map-append (inside s) xs ys) ∙ sym (append_assoc (references values) (flat_map (inside s) xs) (flat_map (inside s) ys))

  -- all references that there are
  abbrev everywhere : List ℕ
  everywhere = references values ++ flat_map (λ o. references o.items) s.objects

  inside_there : (listed : List ℕ) (r : ℕ) → IsIn r (flat_map (inside s) listed) → IsIn r (flat_map (λ o. references o.items) s.objects)
  inside_there [] r h = cc
  inside_there (q ∷ qs) r h =
      elim (in_cases r (inside s q) (flat_map (inside s) qs) h) [
        | inl here ↦ object_in s.objects q r here
        | inr later ↦ inside_there qs r later
      ]

  mentioned_below : (listed : List ℕ) (r : ℕ) → IsIn r (mentioned s values listed) → r < above everywhere
  mentioned_below listed r h =
      is_below everywhere r
      (elim (in_cases r (references values) (flat_map (inside s) listed) h) [
        | inl here ↦ in_left r (references values) (flat_map (λ o. references o.items) s.objects) here
        | inr later ↦ in_right r (references values) (flat_map (λ o. references o.items) s.objects) (inside_there listed r later)
      ])

  from_nothing : (xs : List ℕ) (r : ℕ) → IsIn r (gathered [] xs) → IsIn r xs
  from_nothing xs r h = elim (gathers_only xs [] r h) [ inl none ↦ cc | inr some ↦ some ]

  gathered_few : (next : ℕ) (listed : List ℕ) → IsGathered s values next listed → length listed ≤ above everywhere
  gathered_few next listed g =
      length-le_from_distinct_below listed (above everywhere)
      (subst (IsDistinct nat_eq) (sym g.so_far) (gathered_distinct (mentioned s values (take next listed)) [] nothing_distinct))
      (λ r h. mentioned_below (take next listed) r (from_nothing (mentioned s values (take next listed)) r (subst (IsIn r) g.so_far h)))

  ahead : (next : ℕ) (listed other : List ℕ) → listed ≡ gathered [] (mentioned s values (take next listed)) → IsListing s values other → take next other ≡ take next listed → (more : List ℕ) × (other ≡ listed ++ more)
  ahead next listed other so_far is_one same =
      let rest : List ℕ = flat_map (inside s) (drop next other) in
      let whole : other ≡ gathered [] (mentioned s values other) = is_one.equation ∙ sym (gathered_firsts (mentioned s values other)) in
      let parts : mentioned s values other ≡ mentioned s values (take next other) ++ rest = ap (mentioned s values) (sym (take-append-drop next other)) ∙ mentioned_append (take next other) (drop next other) in
      let step : other ≡ gathered listed rest =
      whole ∙ ap (gathered []) parts ∙ gathered_append [] (mentioned s values (take next other)) rest
      ∙ ap (λ l. gathered l rest) (ap (λ l. gathered [] (mentioned s values l)) same ∙ sym so_far) in
      ((gathered_more listed rest).0, step ∙ (gathered_more listed rest).1)

  no_more : (listed other more : List ℕ) → IsListing s values listed → IsListing s values other → other ≡ listed ++ more → other ≡ listed
  no_more listed other [] is_one is_other e = e ∙ append-nil listed
  no_more listed other (r ∷ rest) is_one is_other e =
      let at : slice_get other (length listed) ≡ Some r = ap (λ l. slice_get l (length listed)) e ∙ at_seam listed r rest in
      let front : take (length listed) other ≡ listed = ap (take (length listed)) e ∙ take-append_seam listed (r ∷ rest) in
      let there : IsIn r (mentioned s values listed) = subst (λ (l : List ℕ). IsIn r (mentioned s values l)) front (is_other.grounded (length listed) r at) in
      let again : IsIn r listed = subst (IsIn r) (gathered_firsts (mentioned s values listed) ∙ sym is_one.equation) (gathers (mentioned s values listed) [] r there) in
      let distinct : IsDistinct nat_eq other = subst (IsDistinct nat_eq) (gathered_firsts (mentioned s values other) ∙ sym is_other.equation) (gathered_distinct (mentioned s values other) [] nothing_distinct) in
      absurd (seam_distinct listed r rest (subst (IsDistinct nat_eq) e distinct) again)

  go_on : (fuel next : ℕ) (listed : List ℕ) → IsGathered s values next listed → ((other : List ℕ) → IsListing s values other → (more : List ℕ) × (other ≡ listed ++ more)) → above everywhere < fuel + next → HasOneListing s values
  go_on zero next listed g prefix enough =
      let few : length listed ≤ above everywhere = gathered_few next listed g in
      let far : next ≤ length listed = g.within in
      absurd (omega (arith, few, far, enough))
  go_on (suc fuel) next listed g prefix enough = by (slice_get listed next) refl (λ more h ahead_of. go_on fuel (suc next) more h ahead_of (omega (arith, enough)))
    where
      by : (found : Option ℕ) → slice_get listed next ≡ found → ((more : List ℕ) → IsGathered s values (suc next) more → ((other : List ℕ) → IsListing s values other → (rest : List ℕ) × (other ≡ more ++ rest)) → HasOneListing s values) → HasOneListing s values
      by None e later =
          let all : length listed ≤ next = past listed next e in
          let whole : IsListing s values listed = gathered_whole s values next listed g all in
          record { listed = listed; is_one = whole; only = λ other is_other. no_more listed other (prefix other is_other).0 whole is_other (prefix other is_other).1 }
      by (Some r) e later =
          let further : IsGathered s values (suc next) (gathered listed (inside s r)) = gathered_on s values next listed r g e in
          let below : next < length listed = slice_get_within listed next r e in
          let grown : gathered listed (inside s r) ≡ listed ++ (gathered_more listed (inside s r)).0 = (gathered_more listed (inside s r)).1 in
          let front : take (suc next) (gathered listed (inside s r)) ≡ take (suc next) listed = ap (take (suc next)) grown ∙ take-append-le (suc next) listed (gathered_more listed (inside s r)).0 (omega (arith, below)) in
          later (gathered listed (inside s r)) further
          (λ other is_other. ahead (suc next) (gathered listed (inside s r)) other further.so_far is_other (ap (take (suc next)) (prefix other is_other).1 ∙ take-append-le (suc next) listed (prefix other is_other).0 (omega (arith, below)) ∙ sym front))

  pub one_listing : HasOneListing s values
  one_listing =
      go_on (suc (above everywhere)) 0 (gathered [] (references values)) (begun s values)
      (λ other is_other. ahead 0 (gathered [] (references values)) other (begun s values).so_far is_other refl)
      (omega arith)

  abbrev pub the_parcel : ParcelView
  the_parcel = record { values = map (renumbered (place_in one_listing.listed)) values; objects = packed_objects s one_listing.listed }

  pub parcel_is : IsParcelOf s values the_parcel
  parcel_is = record { listed = one_listing.listed; listing = one_listing.is_one; values = refl; objects = refl }

  pub parcel_once : (p : ParcelView) → IsParcelOf s values p → p ≡ the_parcel
  parcel_once p x =
      let same : x.listed ≡ one_listing.listed = one_listing.only x.listed x.listing in
      let vs : p.values ≡ the_parcel.values = x.values ∙ ap (λ (l : List ℕ). map (renumbered (place_in l)) values) same in
      let os : p.objects ≡ the_parcel.objects = x.objects ∙ ap (packed_objects s) same in
      ap (λ (v : List Value). let q : ParcelView = record { values = v; objects = p.objects } in q) vs
      ∙ ap (λ (o : List ObjectView). let q : ParcelView = record { values = the_parcel.values; objects = o } in q) os
