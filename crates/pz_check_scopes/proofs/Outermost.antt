-- The outermost of a list.
use Rattle.std.proofs.Common.{◌≡◌, refl, ℕ, suc, ◌+◌, ◌-◌, ◌<◌, ◌≤◌, ◌⊎◌, inl, inr, List, [], ◌∷◌, length, arith}
use Rattle.std.proofs.lemmas.Bool.{cases_lt}
use Rattle.pz_check_scopes.specs.Scopes.{outermost}

module _ {A : Type 0} where
  -- a list has no more than all its elements
  pub outermost_all : (n : ℕ) (xs : List A) → length xs ≤ n → outermost n xs ≡ xs
  outermost_all n xs within =
      let none : length xs - n ≡ 0 = omega (arith, within) in
      rw none refl

  -- the innermost is not among fewer than all
  pub outermost_rest : (n : ℕ) (x : A) (xs : List A) → n ≤ length xs → outermost n (x ∷ xs) ≡ outermost n xs
  outermost_rest n x xs within =
      let more : suc (length xs) - n ≡ suc (length xs - n) = omega (arith, within) in
      rw more refl

  -- one more of the list, and those without it
  pub outermost_more : (n : ℕ) (xs : List A) → n < length xs → (x : A) × (outermost (n + 1) xs ≡ x ∷ outermost n xs)
  outermost_more n [] within = absurd (omega (arith, within))
  outermost_more n (x ∷ xs) within = by_cases (outermost_more n xs) (cases_lt n (length xs))
    where
      by_cases : (n < length xs → (y : A) × (outermost (n + 1) xs ≡ y ∷ outermost n xs)) → (n < length xs) ⊎ (length xs ≤ n)
          → (y : A) × (outermost (n + 1) (x ∷ xs) ≡ y ∷ outermost n (x ∷ xs))
      by_cases later (inl inner) =
          let rest = later inner in
          (rest.0, rw (outermost_rest (n + 1) x xs (omega (arith, inner)), outermost_rest n x xs (omega (arith, inner))) rest.1)
      by_cases later (inr least) =
          (x, rw (outermost_all (n + 1) (x ∷ xs) (omega (arith, least)), outermost_rest n x xs (omega (arith, within)), outermost_all n xs least) refl)
