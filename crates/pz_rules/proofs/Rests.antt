-- Statements of a list from some place on.
use Rattle.std.proofs.Common.{◌≡◌, ℕ, zero, suc, ◌+◌, ◌≤◌, List, [], ◌∷◌, drop, slice_get, refl, ap, ◌∙◌, length, arith}
use Rattle.std.proofs.lemmas.List.{drop_all}

module _ {X : Type 0} where
  drop_next : (n : ℕ) (xs : List X) → drop (suc n) xs ≡ drop 1 (drop n xs)
  drop_next zero xs = refl
  drop_next (suc n) [] = refl
  drop_next (suc n) (x ∷ xs) = drop_next n xs

  pub behind_next : (n : ℕ) (xs all : List X) → all ≡ xs → drop (n + 1) all ≡ drop 1 (drop n xs)
  behind_next n xs all same =
      let next : n + 1 ≡ suc n = omega arith in
      ap (λ k. drop k all) next ∙ ap (λ (ys : List X). drop (suc n) ys) same ∙ drop_next n xs

  pub behind_last : (n : ℕ) (xs : List X) → length xs ≤ n → drop n xs ≡ drop 1 (drop n xs)
  behind_last n xs past = rw (drop_all n xs past) refl

  pub first_dropped : (n : ℕ) (xs : List X) → slice_get xs n ≡ slice_get (drop n xs) 0
  first_dropped zero xs = refl
  first_dropped (suc n) [] = refl
  first_dropped (suc n) (x ∷ xs) = first_dropped n xs
