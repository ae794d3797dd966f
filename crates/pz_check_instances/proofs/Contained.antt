-- What lists that are joined contain.
use Rattle.std.proofs.Common.{◌≡◌, refl, sym, subst, zero, suc, List, [], ◌∷◌, ◌++◌, arith, ◌⊎◌, inl, inr}
use Rattle.std.specs.List.{Contains, flat_map}
use Rattle.std.proofs.lemmas.List.Elements.{Contains-append_left, Contains-append_right, Contains-append_cases, Contains-get_or}
use Rattle.pz_classes.specs.pz_check_violations.declared.violation.Violation.{Violation}
use Rattle.pz_classes.specs.pz_check_violations.Least.{Member}

module _ {A : Type 0} where
  pub only_one : (x y : A) → Contains (x ∷ []) y → x ≡ y
  only_one x y (zero, within, is) = is
  only_one x y (suc k, within, is) = absurd (omega (arith, within))

  pub first_of : (x : A) (xs : List A) → Contains (x ∷ xs) x
  first_of x xs = Contains-get_or (x ∷ xs) 0 x (omega arith)

  pub later_of : (x y : A) (xs : List A) → Contains xs y → Contains (x ∷ xs) y
  later_of x y xs there = Contains-append_right (x ∷ []) xs y there

  pub either_of : (x y : A) (xs : List A) → Contains (x ∷ xs) y → (x ≡ y) ⊎ Contains xs y
  either_of x y xs there = elim (Contains-append_cases (x ∷ []) xs y there) [ inl here ↦ inl (only_one x y here) | inr later ↦ inr later ]

  pub in_none : (y : A) → Contains {X = A} [] y → ⊥
  in_none y (k, within, is) = omega (arith, within)

-- what stands in a list of many is some element's
pub record Holder {A B : Type 0} (f : A → List B) (xs : List A) (y : B) : Type 0 where
  pub element : A
  pub among : Contains xs element
  pub its : Contains (f element) y

pub holder : {A B : Type 0} (f : A → List B) (xs : List A) (y : B) → Contains (flat_map f xs) y → Holder f xs y
holder f [] y found = absurd (in_none y found)
holder {A} {B} f (x ∷ xs) y found = by_part (holder f xs y) (Contains-append_cases (f x) (flat_map f xs) y found)
  where
    by_part : (Contains (flat_map f xs) y → Holder f xs y) → Contains (f x) y ⊎ Contains (flat_map f xs) y → Holder f (x ∷ xs) y
    by_part rest (inl here) = record { element = x; among = first_of x xs; its = here }
    by_part rest (inr later) = let h = rest later in record { element = h.element; among = later_of x h.element xs h.among; its = h.its }

pub held : {A B : Type 0} (f : A → List B) (xs : List A) (x : A) (y : B) → Contains xs x → Contains (f x) y → Contains (flat_map f xs) y
held f [] x y among found = absurd (in_none x among)
held {A} {B} f (z ∷ xs) x y among found = by_part (λ later. held f xs x y later found) (either_of z x xs among)
  where
    by_part : (Contains xs x → Contains (flat_map f xs) y) → (z ≡ x) ⊎ Contains xs x → Contains (f z ++ flat_map f xs) y
    by_part rest (inl first) = Contains-append_left (f z) (flat_map f xs) y (subst (λ (w : A). Contains (f w) y) (sym first) found)
    by_part rest (inr later) = Contains-append_right (f z) (flat_map f xs) y (rest later)

-- the same of each element
pub same_each : {A B : Type 0} (f g : A → List B) → ((x : A) → f x ≡ g x) → (xs : List A) → flat_map f xs ≡ flat_map g xs
same_each f g same [] = refl
same_each f g same (x ∷ xs) = rw (same x, same_each f g same xs) refl

-- members are what a list contains
pub member_contained : (v : Violation) (vs : List Violation) → Member v vs → Contains vs v
member_contained v [] found = absurd found
member_contained v (w ∷ vs) (inl is) = subst (Contains (w ∷ vs)) is (first_of w vs)
member_contained v (w ∷ vs) (inr later) = later_of w v vs (member_contained v vs later)

pub contained_member : (v : Violation) (vs : List Violation) → Contains vs v → Member v vs
contained_member v [] found = absurd (in_none v found)
contained_member v (w ∷ vs) found = elim (either_of w v vs found) [ inl is ↦ inl is | inr later ↦ inr (contained_member v vs later) ]
