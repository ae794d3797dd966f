-- The earliest place of things that are alike.
use Rattle.std.proofs.Common.{◌≡◌, refl, ℕ, zero, suc, Bool, true, false, IsTrue, List, [], ◌∷◌, ◌++◌, Option, Some, None, slice_get, if◌then◌else◌, ◌⊎◌, inl, inr}
use Rattle.pz_classes.specs.pz_syntax.declared.tokens.Pos.{Pos}
use Rattle.pz_check_violations.specs.Order.{pos_before}
use Rattle.pz_check_duplicates.specs.devices.Earlier.{earlier, earliest_of}
use Rattle.pz_check_duplicates.proofs.PlaceOrder.{not_before_its_own, never_sooner, not_later}

one_of_two : (found : Option Pos) (p q : Pos) → earlier found p ≡ Some q → (found ≡ Some q) ⊎ (p ≡ q)
one_of_two None p q is = let same : p ≡ q = cc in inr same
one_of_two (Some r) p q is = by_test (pos_before p r) refl
  where
    by_test : (t : Bool) → pos_before p r ≡ t → (Some r ≡ Some q) ⊎ (p ≡ q)
    by_test true first = let chosen : Some p ≡ Some q = rw first at is in let same : p ≡ q = cc in inr same
    by_test false first = let chosen : Some r ≡ Some q = rw first at is in inl chosen

-- what is found is not behind the place
pub record IsEarly (found : Option Pos) (p : Pos) : Type 0 where
  pub place : Pos
  pub is : found ≡ Some place
  pub early : pos_before p place ≡ false

early_still : (found : Option Pos) (r p : Pos) → IsEarly found p → IsEarly (earlier found r) p
early_still found r p e = by_test (pos_before r e.place) refl
  where
    by_test : (t : Bool) → pos_before r e.place ≡ t → IsEarly (earlier found r) p
    by_test true first = rw e.is (rw first (record { place = r; is = refl; early = never_sooner p e.place r e.early (not_later r e.place first) }))
    by_test false first = rw e.is (rw first (record { place = e.place; is = refl; early = e.early }))

early_itself : (found : Option Pos) (p : Pos) → IsEarly (earlier found p) p
early_itself None p = record { place = p; is = refl; early = not_before_its_own p }
early_itself (Some q) p = by_test (pos_before p q) refl
  where
    by_test : (t : Bool) → pos_before p q ≡ t → IsEarly (earlier (Some q) p) p
    by_test true first = rw first (record { place = p; is = refl; early = not_before_its_own p })
    by_test false first = rw first (record { place = q; is = refl; early = first })

module _ {A : Type 0} (place : A → Pos) (alike : A → Bool) where
  pub earliest_append : (found : Option Pos) (xs ys : List A) → earliest_of place alike found (xs ++ ys) ≡ earliest_of place alike (earliest_of place alike found xs) ys
  earliest_append found [] ys = refl
  earliest_append found (x ∷ xs) ys = earliest_append (if alike x then earlier found (place x) else found) xs ys

  -- one of those that are alike stands there
  pub record StandsAt (xs : List A) (p : Pos) : Type 0 where
    pub which : A
    pub index : ℕ
    pub there : slice_get xs index ≡ Some which
    pub is_alike : IsTrue (alike which)
    pub stands : place which ≡ p

  stands_later : (x : A) (xs : List A) (p : Pos) → StandsAt xs p → StandsAt (x ∷ xs) p
  stands_later x xs p s = record { which = s.which; index = suc s.index; there = s.there; is_alike = s.is_alike; stands = s.stands }

  found_or_stands : (found : Option Pos) (xs : List A) (q : Pos) → earliest_of place alike found xs ≡ Some q → (found ≡ Some q) ⊎ StandsAt xs q
  found_or_stands found [] q is = inl is
  found_or_stands found (x ∷ xs) q is = by_test (λ other so. found_or_stands other xs q so) (alike x) refl
    where
      by_two : IsTrue (alike x) → (found ≡ Some q) ⊎ (place x ≡ q) → (found ≡ Some q) ⊎ StandsAt (x ∷ xs) q
      by_two named (inl before) = inl before
      by_two named (inr here) = inr (record { which = x; index = zero; there = refl; is_alike = named; stands = here })

      by_rest : IsTrue (alike x) → (earlier found (place x) ≡ Some q) ⊎ StandsAt xs q → (found ≡ Some q) ⊎ StandsAt (x ∷ xs) q
      by_rest named (inl first) = by_two named (one_of_two found (place x) q first)
      by_rest named (inr later) = inr (stands_later x xs q later)

      by_other : (found ≡ Some q) ⊎ StandsAt xs q → (found ≡ Some q) ⊎ StandsAt (x ∷ xs) q
      by_other (inl before) = inl before
      by_other (inr later) = inr (stands_later x xs q later)

      by_test : ((other : Option Pos) → earliest_of place alike other xs ≡ Some q → (other ≡ Some q) ⊎ StandsAt xs q) → (t : Bool) → alike x ≡ t → (found ≡ Some q) ⊎ StandsAt (x ∷ xs) q
      by_test more true named = by_rest named (more (earlier found (place x)) (rw named at is))
      by_test more false named = by_other (more found (rw named at is))

  -- one of them stands at the earliest place
  pub stands_earliest : (xs : List A) (q : Pos) → earliest_of place alike None xs ≡ Some q → StandsAt xs q
  stands_earliest xs q is = by_part (found_or_stands None xs q is)
    where
      by_part : (None ≡ Some q) ⊎ StandsAt xs q → StandsAt xs q
      by_part (inl nothing) = cc
      by_part (inr there) = there

  early_on : (found : Option Pos) (xs : List A) (p : Pos) → IsEarly found p → IsEarly (earliest_of place alike found xs) p
  early_on found [] p e = e
  early_on found (x ∷ xs) p e = by_test (λ other still. early_on other xs p still) (alike x) refl
    where
      by_test : ((other : Option Pos) → IsEarly other p → IsEarly (earliest_of place alike other xs) p) → (t : Bool) → alike x ≡ t → IsEarly (earliest_of place alike found (x ∷ xs)) p
      by_test more true named = rw named (more (earlier found (place x)) (early_still found (place x) p e))
      by_test more false named = rw named (more found e)

  -- none of them stands before the earliest place
  pub early_for : (found : Option Pos) (xs : List A) (i : ℕ) (o : A) → slice_get xs i ≡ Some o → IsTrue (alike o) → IsEarly (earliest_of place alike found xs) (place o)
  early_for found [] i o here named = cc
  early_for found (x ∷ xs) zero o here named = early_on (if alike x then earlier found (place x) else found) xs (place o) at_first
    where
      at_first : IsEarly (if alike x then earlier found (place x) else found) (place o)
      at_first = let is : x ≡ o = cc in rw (is, named) (early_itself found (place o))
  early_for found (x ∷ xs) (suc i) o here named = early_for (if alike x then earlier found (place x) else found) xs i o here named
