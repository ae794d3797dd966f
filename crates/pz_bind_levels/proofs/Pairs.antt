-- Lists of which every two elements are related.
use Rattle.std.proofs.Common.{◌≡◌, ◌≢◌, refl, ap, subst, ℕ, zero, suc, ◌<◌, ◌⊎◌, inl, inr, Bool, true, false, List, [], ◌∷◌, ◌++◌, Some, slice_get, cond, arith}
use Rattle.std.specs.List.{filter}

module _ {A : Type 0} where
  unfoldable pub Each : (A → Type 0) → List A → Type 0
  Each P [] = Unit {0}
  Each P (x ∷ xs) = P x × Each P xs

module _ {A : Type 0} (P : A → Type 0) where
  pub each_append : (xs ys : List A) → Each P xs → Each P ys → Each P (xs ++ ys)
  unfolding Each
  each_append [] ys all more = more
  each_append (x ∷ xs) ys (here, all) more = (here, each_append xs ys all more)

  pub each_filter : (p : A → Bool) (xs : List A) → Each P xs → Each P (filter p xs)
  unfolding Each
  each_filter p [] all = tt
  each_filter p (x ∷ xs) (here, all) = by_test (each_filter p xs all) (p x)
    where
      by_test : Each P (filter p xs) → (b : Bool) → Each P (cond b (x ∷ filter p xs) (filter p xs))
      by_test rest true = (here, rest)
      by_test rest false = rest

  pub each_at : (xs : List A) (n : ℕ) (x : A) → Each P xs → slice_get xs n ≡ Some x → P x
  unfolding Each
  each_at [] n x all at = cc
  each_at (y ∷ xs) zero x (here, all) at = let same : y ≡ x = cc in subst P same here
  each_at (y ∷ xs) (suc n) x (here, all) at = each_at xs n x all at

  pub no_each : Each P []
  unfolding Each
  no_each = tt

  pub one_each : (x : A) (xs : List A) → P x → Each P xs → Each P (x ∷ xs)
  unfolding Each
  one_each x xs here all = (here, all)

pub each_implied : {A : Type 0} (P Q : A → Type 0) → ((x : A) → P x → Q x) → (xs : List A) → Each P xs → Each Q xs
unfolding Each
each_implied P Q more [] all = tt
each_implied P Q more (x ∷ xs) (here, all) = (more x here, each_implied P Q more xs all)

module _ {A : Type 0} (R : A → A → Type 0) where
  unfoldable pub Pairs : List A → Type 0
  Pairs [] = Unit {0}
  Pairs (x ∷ xs) = Each (R x) xs × Pairs xs

  pub no_pairs : Pairs []
  unfolding Pairs
  no_pairs = tt

  pub one_pairs : (x : A) (xs : List A) → Each (R x) xs → Pairs xs → Pairs (x ∷ xs)
  unfolding Pairs
  one_pairs x xs here all = (here, all)

  pub pairs_append : (xs ys : List A) → Pairs xs → Pairs ys → Each (λ x. Each (R x) ys) xs → Pairs (xs ++ ys)
  unfolding Pairs Each
  pairs_append [] ys all more cross = more
  pairs_append (x ∷ xs) ys (here, all) more (apart, cross) = (each_append (R x) xs ys here apart, pairs_append xs ys all more cross)

  pub pairs_filter : (p : A → Bool) (xs : List A) → Pairs xs → Pairs (filter p xs)
  unfolding Pairs
  pairs_filter p [] all = tt
  pairs_filter p (x ∷ xs) (here, all) = by_test (pairs_filter p xs all) (each_filter (R x) p xs here) (p x)
    where
      by_test : Pairs (filter p xs) → Each (R x) (filter p xs) → (b : Bool) → Pairs (cond b (x ∷ filter p xs) (filter p xs))
      by_test rest apart true = (apart, rest)
      by_test rest apart false = rest

  pub pairs_at : (xs : List A) (n m : ℕ) (x y : A) → Pairs xs → slice_get xs n ≡ Some x → slice_get xs m ≡ Some y → n < m → R x y
  unfolding Pairs
  pairs_at [] n m x y all at other less = cc
  pairs_at (z ∷ xs) zero zero x y all at other less = absurd (omega arith)
  pairs_at (z ∷ xs) zero (suc m) x y (here, all) at other less = let same : z ≡ x = cc in subst (λ w. R w y) same (each_at (R z) xs m y here other)
  pairs_at (z ∷ xs) (suc n) zero x y all at other less = absurd (omega arith)
  pairs_at (z ∷ xs) (suc n) (suc m) x y (here, all) at other less = pairs_at xs n m x y all at other (omega arith)

-- what stands once
pub once : {A : Type 0} (xs : List A) → Pairs (λ x y. x ≢ y) xs → (n m : ℕ) (x : A) → slice_get xs n ≡ Some x → slice_get xs m ≡ Some x → n ≡ m
once {A} xs all n m x at other = by_order (ways n m)
  where
    ways : (n m : ℕ) → (n < m) ⊎ ((m < n) ⊎ (n ≡ m))
    ways zero zero = inr (inr refl)
    ways zero (suc m) = inl (omega arith)
    ways (suc n) zero = inr (inl (omega arith))
    ways (suc n) (suc m) = up (ways n m)
      where
        up : (n < m) ⊎ ((m < n) ⊎ (n ≡ m)) → (suc n < suc m) ⊎ ((suc m < suc n) ⊎ (suc n ≡ suc m))
        up (inl less) = inl (omega arith)
        up (inr (inl more)) = inr (inl (omega arith))
        up (inr (inr same)) = inr (inr (ap suc same))

    by_order : (n < m) ⊎ ((m < n) ⊎ (n ≡ m)) → n ≡ m
    by_order (inl less) = absurd (pairs_at (λ (y z : A). y ≢ z) xs n m x x all at other less refl)
    by_order (inr (inl more)) = absurd (pairs_at (λ (y z : A). y ≢ z) xs m n x x all other at more refl)
    by_order (inr (inr same)) = same
