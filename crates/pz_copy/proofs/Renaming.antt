-- Values whose references have other numbers.
use Rattle.std.proofs.Common.{◌≡◌, refl, sym, ◌∙◌, ap, ℕ, suc, ◌<◌, ◌≤◌, inl, inr, Bool, true, false, not, List, [], ◌∷◌, length, map, Some, None, arith}
use Rattle.std.specs.Prelude.{nat_eq, nat_lt, slice_get, unwrap_or, position, if◌then◌else◌}
use Rattle.std.proofs.lemmas.Bool.{eqb-true, eq-eqb, ltb-false}
use Rattle.std.proofs.lemmas.List.Sums.{prefix_len-le-length}
use Rattle.pz_state.specs.pz_value.declared.value.Value.{Value}
use Rattle.pz_state.specs.pz_value.declared.value.Value.TheVariants as value
use Rattle.pz_copy.specs.References.{reference_of, references, IsIn, renumbered}
use Rattle.pz_copy.specs.Packing.{place_in}
use Rattle.pz_copy.proofs.Gathered.{in_cases, in_left, in_right}

-- the place of a number is one of the list, and the number stands there
pub place_within : (listed : List ℕ) (r : ℕ) → IsIn r listed → place_in listed r < length listed
place_within [] r h = cc
place_within (x ∷ xs) r h = by (nat_eq r x) refl h (place_within xs r)
  where
    by : (b : Bool) → nat_eq r x ≡ b → IsIn r (x ∷ xs) → (IsIn r xs → place_in xs r < length xs) → place_in (x ∷ xs) r < suc (length xs)
    by true e h rest = rw e (omega arith)
    by false e h rest = let later : IsIn r xs = rw e at h in let below : place_in xs r < length xs = rest later in rw e (omega arith)

pub at_place : (listed : List ℕ) (r : ℕ) → IsIn r listed → slice_get listed (place_in listed r) ≡ Some r
at_place [] r h = cc
at_place (x ∷ xs) r h = by (nat_eq r x) refl h (at_place xs r)
  where
    by : (b : Bool) → nat_eq r x ≡ b → IsIn r (x ∷ xs) → (IsIn r xs → slice_get xs (place_in xs r) ≡ Some r) → slice_get (x ∷ xs) (place_in (x ∷ xs) r) ≡ Some r
    by true e h rest = rw e (ap (λ y. Some y) (sym (eqb-true r x e)))
    by false e h rest = let later : IsIn r xs = rw e at h in let further : place_in (x ∷ xs) r ≡ suc (place_in xs r) = rw e (omega arith) in ap (slice_get (x ∷ xs)) further ∙ rest later

-- where two numbers have one place they are one
pub place_once : (listed : List ℕ) (q r : ℕ) → IsIn q listed → IsIn r listed → place_in listed q ≡ place_in listed r → q ≡ r
place_once listed q r hq hr e =
    let left : slice_get listed (place_in listed q) ≡ Some q = at_place listed q hq in
    let right : slice_get listed (place_in listed r) ≡ Some r = at_place listed r hr in
    let same : slice_get listed (place_in listed q) ≡ slice_get listed (place_in listed r) = ap (slice_get listed) e in
    cc

only_one : (r q : ℕ) → IsIn r (q ∷ []) → r ≡ q
only_one r q h = by (nat_eq r q) refl h
  where
    by : (b : Bool) → nat_eq r q ≡ b → IsIn r (q ∷ []) → r ≡ q
    by true e h = eqb-true r q e
    by false e h = let none : false ≡ true = rw e at h in cc

-- the references of renumbered values are the numbers of theirs
pub renumbered_in : (number : ℕ → ℕ) (vs : List Value) (r : ℕ) → IsIn r (references vs) → IsIn (number r) (references (map (renumbered number) vs))
renumbered_in number [] r h = cc
renumbered_in number (v ∷ vs) r h =
    elim (in_cases r (reference_of v) (references vs) h) [
      | inl here ↦ in_left (number r) (reference_of (renumbered number v)) (references (map (renumbered number) vs)) (one v here)
      | inr later ↦ in_right (number r) (reference_of (renumbered number v)) (references (map (renumbered number) vs)) (renumbered_in number vs r later)
    ]
  where
    one : (w : Value) → IsIn r (reference_of w) → IsIn (number r) (reference_of (renumbered number w))
    one (value.Ref q) h = let same : r ≡ q = only_one r q h in rw (eq-eqb (number r) (number q) (ap number same)) refl
    one _ h = cc

pub in_renumbered : (number : ℕ → ℕ) (vs : List Value) (k : ℕ) → IsIn k (references (map (renumbered number) vs)) → (r : ℕ) × IsIn r (references vs) × (number r ≡ k)
in_renumbered number [] k h = cc
in_renumbered number (v ∷ vs) k h =
    elim (in_cases k (reference_of (renumbered number v)) (references (map (renumbered number) vs)) h) [
      | inl here ↦ let found = one v here in (found.0, in_left found.0 (reference_of v) (references vs) found.1, found.2)
      | inr later ↦ let found = in_renumbered number vs k later in (found.0, in_right found.0 (reference_of v) (references vs) found.1, found.2)
    ]
  where
    one : (w : Value) → IsIn k (reference_of (renumbered number w)) → (r : ℕ) × IsIn r (reference_of w) × (number r ≡ k)
    one (value.Ref q) h = (q, rw (eq-eqb q q refl) refl, sym (only_one k (number q) h))
    one _ h = cc

-- the place, as a look-up gives it
pub place_or_length : (listed : List ℕ) (r : ℕ) → unwrap_or (position (nat_eq r) listed) (length listed) ≡ place_in listed r
place_or_length listed r = by (nat_lt (place_in listed r) (length listed)) refl
  where
    by : (b : Bool) → nat_lt (place_in listed r) (length listed) ≡ b → unwrap_or (if b then Some (place_in listed r) else None) (length listed) ≡ place_in listed r
    by true e = refl
    by false e = let few : place_in listed r ≤ length listed = prefix_len-le-length (λ x. not (nat_eq r x)) listed in let far : length listed ≤ place_in listed r = ltb-false (place_in listed r) (length listed) e in omega (arith, few, far)

pub place_few : (listed : List ℕ) (r : ℕ) → place_in listed r ≤ length listed
place_few listed r = prefix_len-le-length (λ x. not (nat_eq r x)) listed

-- every value that is no reference stays
pub others_stay : (number : ℕ → ℕ) (v : Value) → ((r : ℕ) → v ≡ value.Ref r → ⊥) → renumbered number v ≡ v
others_stay number (value.Ref r) other = absurd (other r refl)
others_stay number _ other = refl
