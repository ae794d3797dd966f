-- Elements of lists, and tests of all of them.
use Rattle.std.proofs.Common.{◌≡◌, refl, subst, ℕ, zero, suc, Bool, true, false, ◌&&◌, IsTrue, List, [], ◌∷◌, ◌++◌, Some, slice_get, arith, ◌⊎◌, inl, inr}
use Rattle.std.specs.List.{Contains, flat_map, list_all, list_any, find}
use Rattle.std.specs.Str.{bytes_eq}
use Rattle.std.proofs.lemmas.List.Elements.{Contains-append_left, Contains-append_right}
use Rattle.std.proofs.lemmas.Slice.Eq.{bytes_eq-Decides}

pub both_true : (a b : Bool) → IsTrue (a && b) → IsTrue a × IsTrue b
both_true true true is = (refl, refl)
both_true true false is = cc
both_true false b is = cc

module _ {A : Type 0} where
  pub none_in : (y : A) → Contains [] y → ⊥
  none_in y here = omega (arith, here.1)

  pub first_in : (x : A) (xs : List A) → Contains (x ∷ xs) x
  first_in x xs = (0, omega arith, refl)

  pub later_in : (x : A) (xs : List A) (y : A) → Contains xs y → Contains (x ∷ xs) y
  later_in x xs y (k, below, is) = (suc k, omega arith, is)

  pub in_cases : (x : A) (xs : List A) (y : A) → Contains (x ∷ xs) y → (x ≡ y) ⊎ Contains xs y
  in_cases x xs y (zero, below, is) = inl is
  in_cases x xs y (suc k, below, is) = inr (k, omega arith, is)

  -- an element at its place
  pub at_place : (xs : List A) (i : ℕ) (x : A) → slice_get xs i ≡ Some x → Contains xs x
  at_place [] i x here = cc
  at_place (y ∷ ys) zero x here = let is : y ≡ x = cc in subst (λ (z : A). Contains (z ∷ ys) x) (sym_of is) (first_in x ys)
    where
      sym_of : y ≡ x → x ≡ y
      sym_of is = cc
  at_place (y ∷ ys) (suc i) x here = later_in y ys x (at_place ys i x here)

  -- what a test of all says of each
  pub each_passes : (p : A → Bool) (xs : List A) (x : A) → IsTrue (list_all p xs) → Contains xs x → IsTrue (p x)
  each_passes p [] x all here = absurd (none_in x here)
  each_passes p (y ∷ ys) x all here = by_part (λ later. each_passes p ys x (both_true (p y) (list_all p ys) all).1 later) (in_cases y ys x here)
    where
      by_part : (Contains ys x → IsTrue (p x)) → (y ≡ x) ⊎ Contains ys x → IsTrue (p x)
      by_part rest (inl is) = subst (λ (z : A). IsTrue (p z)) is (both_true (p y) (list_all p ys) all).0
      by_part rest (inr later) = rest later

  -- what is found is an element
  pub found_in : (p : A → Bool) (xs : List A) (x : A) → find p xs ≡ Some x → Contains xs x
  found_in p [] x is = cc
  found_in p (y ∷ ys) x is = by_test (found_in p ys x) (p y) refl
    where
      by_test : (find p ys ≡ Some x → Contains ys x) → (b : Bool) → p y ≡ b → Contains (y ∷ ys) x
      by_test rest true does = let chosen : Some y ≡ Some x = rw does at is in let same : y ≡ x = cc in subst (λ (z : A). Contains (y ∷ ys) z) same (first_in y ys)
      by_test rest false does = later_in y ys x (rest (rw does at is))

-- an element of what an element has
pub in_flat : {A B : Type 0} (f : A → List B) (xs : List A) (x : A) (y : B) → Contains xs x → Contains (f x) y → Contains (flat_map f xs) y
in_flat f [] x y here has = absurd (none_in x here)
in_flat {A} {B} f (z ∷ zs) x y here has = by_part (λ later. in_flat f zs x y later has) (in_cases z zs x here)
  where
    by_part : (Contains zs x → Contains (flat_map f zs) y) → (z ≡ x) ⊎ Contains zs x → Contains (f z ++ flat_map f zs) y
    by_part rest (inl is) = Contains-append_left (f z) (flat_map f zs) y (subst (λ (w : A). Contains (f w) y) (sym_of is) has)
      where
        sym_of : z ≡ x → x ≡ z
        sym_of same = cc
    by_part rest (inr later) = Contains-append_right (f z) (flat_map f zs) y (rest later)

-- a name among names
pub name_in : (name : List ℕ) (names : List (List ℕ)) → IsTrue (list_any (bytes_eq name) names) → Contains names name
name_in name [] is = cc
name_in name (x ∷ xs) is = by_test (name_in name xs) (bytes_eq name x) refl
  where
    by_test : (IsTrue (list_any (bytes_eq name) xs) → Contains xs name) → (b : Bool) → bytes_eq name x ≡ b → Contains (x ∷ xs) name
    by_test rest true does = let same : name ≡ x = (bytes_eq-Decides name x).0 does in subst (λ (n : List ℕ). Contains (n ∷ xs) name) same (first_in name xs)
    by_test rest false does = later_in x xs name (rest (rw does at is))
