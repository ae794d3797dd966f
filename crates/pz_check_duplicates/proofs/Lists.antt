-- Elements of lists, and the violations that elements have.
use Rattle.std.proofs.Common.{◌≡◌, refl, ap, sym, subst, ℕ, zero, suc, List, [], ◌∷◌, ◌++◌, length, Some, slice_get, arith, ◌⊎◌, inl, inr}
use Rattle.std.specs.List.{Contains, flat_map}
use Rattle.std.proofs.lemmas.List.Elements.{Contains-get_or, Contains-append_right, Contains-append_cases, Contains-push_cases}
use Rattle.pz_check_violations.specs.declared.violation.Violation.{Violation}
use Rattle.pz_check_violations.specs.Least.{Member}
use Rattle.pz_check_violations.proofs.Members.{member_left, member_right, member_cases}

module _ {A : Type 0} where
  pub none_in : (y : A) → Contains [] y → ⊥
  none_in y here = omega (arith, here.1)

  pub first_in : (x : A) (xs : List A) → Contains (x ∷ xs) x
  first_in x xs = Contains-get_or (x ∷ xs) 0 x (omega arith)

  pub later_in : (x : A) (xs : List A) (y : A) → Contains xs y → Contains (x ∷ xs) y
  later_in x xs y here = Contains-append_right (x ∷ []) xs y here

  pub in_cases : (x : A) (xs : List A) (y : A) → Contains (x ∷ xs) y → (x ≡ y) ⊎ Contains xs y
  in_cases x xs y here = by_part (Contains-append_cases (x ∷ []) xs y here)
    where
      by_first : Contains [] y ⊎ (x ≡ y) → (x ≡ y) ⊎ Contains xs y
      by_first (inl none) = absurd (none_in y none)
      by_first (inr is) = inl is

      by_part : Contains (x ∷ []) y ⊎ Contains xs y → (x ≡ y) ⊎ Contains xs y
      by_part (inl first) = by_first (Contains-push_cases [] x y first)
      by_part (inr later) = inr later

  -- ---- elements at their places

  pub at_place : (xs : List A) (i : ℕ) (x : A) → slice_get xs i ≡ Some x → Contains xs x
  at_place [] i x here = cc
  at_place (y ∷ ys) zero x here = let is : y ≡ x = cc in subst (λ (z : A). Contains (z ∷ ys) x) (sym is) (first_in x ys)
  at_place (y ∷ ys) (suc i) x here = later_in y ys x (at_place ys i x here)

  pub there_before : (xs ys : List A) (i : ℕ) (x : A) → slice_get xs i ≡ Some x → slice_get (xs ++ ys) i ≡ Some x
  there_before [] ys i x here = cc
  there_before (z ∷ zs) ys zero x here = here
  there_before (z ∷ zs) ys (suc i) x here = there_before zs ys i x here

  pub last_there : (xs : List A) (y : A) → slice_get (xs ++ (y ∷ [])) (length xs) ≡ Some y
  last_there [] y = refl
  last_there (x ∷ xs) y = last_there xs y

  -- among these, or the last
  pub there_cases : (xs : List A) (y : A) (i : ℕ) (x : A) → slice_get (xs ++ (y ∷ [])) i ≡ Some x → (slice_get xs i ≡ Some x) ⊎ ((i ≡ length xs) × (y ≡ x))
  there_cases [] y zero x here = let is : y ≡ x = cc in inr (refl, is)
  there_cases [] y (suc i) x here = cc
  there_cases (z ∷ zs) y zero x here = inl here
  there_cases (z ∷ zs) y (suc i) x here = by_part (there_cases zs y i x here)
    where
      by_part : (slice_get zs i ≡ Some x) ⊎ ((i ≡ length zs) × (y ≡ x)) → (slice_get zs i ≡ Some x) ⊎ ((suc i ≡ suc (length zs)) × (y ≡ x))
      by_part (inl there) = inl there
      by_part (inr (last, is)) = inr (ap suc last, is)

  -- an element that has the violation
  pub record Having (f : A → List Violation) (xs : List A) (v : Violation) : Type 0 where
    pub element : A
    pub element_in : Contains xs element
    pub has : Member v (f element)

  pub flat_member : (f : A → List Violation) (xs : List A) (v : Violation) → Member v (flat_map f xs) → Having f xs v
  flat_member f [] v found = absurd found
  flat_member f (x ∷ xs) v found = by_part (λ later. flat_member f xs v later) (member_cases v (f x) (flat_map f xs) found)
    where
      by_part : (Member v (flat_map f xs) → Having f xs v) → Member v (f x) ⊎ Member v (flat_map f xs) → Having f (x ∷ xs) v
      by_part rest (inl here) = record { element = x; element_in = first_in x xs; has = here }
      by_part rest (inr later) = let r = rest later in record { element = r.element; element_in = later_in x xs r.element r.element_in; has = r.has }

  pub member_flat : (f : A → List Violation) (xs : List A) (x : A) (v : Violation) → Contains xs x → Member v (f x) → Member v (flat_map f xs)
  member_flat f [] x v here has = absurd (none_in x here)
  member_flat f (y ∷ ys) x v here has = by_part (λ later. member_flat f ys x v later has) (in_cases y ys x here)
    where
      by_part : (Contains ys x → Member v (flat_map f ys)) → (y ≡ x) ⊎ Contains ys x → Member v (f y ++ flat_map f ys)
      by_part rest (inl is) = member_left v (f y) (flat_map f ys) (subst (λ (z : A). Member v (f z)) (sym is) has)
      by_part rest (inr later) = member_right v (f y) (flat_map f ys) (rest later)
