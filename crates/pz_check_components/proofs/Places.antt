-- Which element of a list stands at which place.
use Rattle.std.proofs.Common.{◌≡◌, refl, ap, ◌∙◌, ℕ, zero, suc, ◌+◌, ◌<◌, List, [], ◌∷◌, ◌++◌, length, take, drop, Some, arith}
use Rattle.std.specs.List.{Contains}
use Rattle.std.proofs.lemmas.Option.{slice_get-get_or, get_or_from_slice_get, slice_get_within}
use Rattle.pz_check_components.specs.devices.IsWalk.{At}

module _ {A : Type 0} where
  pub within : (xs : List A) (k : ℕ) (x : A) → At xs k x → k < length xs
  within xs k x at = slice_get_within xs k x at

  pub no_place : (k : ℕ) (x : A) → At {A = A} [] k x → ⊥
  no_place k x at = cc

  pub in_first : (xs ys : List A) (k : ℕ) (x : A) → At xs k x → At (xs ++ ys) k x
  in_first [] ys k x at = cc
  in_first (y ∷ xs) ys zero x at = at
  in_first (y ∷ xs) ys (suc k) x at = in_first xs ys k x at

  pub in_second : (xs ys : List A) (k : ℕ) (x : A) → At ys k x → At (xs ++ ys) (length xs + k) x
  in_second [] ys k x at = let none : 0 + k ≡ k = omega arith in rw none at
  in_second (y ∷ xs) ys k x at = let one : suc (length xs) + k ≡ suc (length xs + k) = omega arith in rw one (in_second xs ys k x at)

  -- of two lists in a row one holds it
  pub data Part (xs ys : List A) (k : ℕ) (x : A) : Type 0 where
    first : At xs k x → Part xs ys k x
    second : (j : ℕ) → k ≡ length xs + j → At ys j x → Part xs ys k x

  one_later : (y : A) (xs ys : List A) (k : ℕ) (x : A) → Part xs ys k x → Part (y ∷ xs) ys (suc k) x
  one_later y xs ys k x (first at) = first at
  one_later y xs ys k x (second j is at) = second j (omega arith) at

  pub part : (xs ys : List A) (k : ℕ) (x : A) → At (xs ++ ys) k x → Part xs ys k x
  part [] ys k x at = second k (omega arith) at
  part (y ∷ xs) ys zero x at = first at
  part (y ∷ xs) ys (suc k) x at = one_later y xs ys k x (part xs ys k x at)

  -- a list and one more
  pub data Pushed (xs : List A) (y : A) (k : ℕ) (x : A) : Type 0 where
    before : At xs k x → Pushed xs y k x
    last : k ≡ length xs → y ≡ x → Pushed xs y k x

  pub pushed : (xs : List A) (y : A) (k : ℕ) (x : A) → At (xs ++ y ∷ []) k x → Pushed xs y k x
  pushed xs y k x at = by_part (part xs (y ∷ []) k x at)
    where
      by_place : (j : ℕ) → k ≡ length xs + j → At (y ∷ []) j x → Pushed xs y k x
      by_place zero is there = last (omega arith) cc
      by_place (suc j) is there = absurd (no_place j x there)

      by_part : Part xs (y ∷ []) k x → Pushed xs y k x
      by_part (first there) = before there
      by_part (second j is there) = by_place j is there

  pub at_last : (xs : List A) (y : A) → At (xs ++ y ∷ []) (length xs) y
  at_last [] y = refl
  at_last (x ∷ xs) y = at_last xs y

  pub of_taken : (n : ℕ) (xs : List A) (k : ℕ) (x : A) → At (take n xs) k x → At xs k x × (k < n)
  of_taken zero xs k x at = absurd (no_place k x at)
  of_taken (suc n) [] k x at = absurd (no_place k x at)
  of_taken (suc n) (y ∷ xs) zero x at = (at, omega arith)
  of_taken (suc n) (y ∷ xs) (suc k) x at = let rest = of_taken n xs k x at in (rest.0, (let less : k < n = rest.1 in omega arith))

  pub is_taken : (n : ℕ) (xs : List A) (k : ℕ) (x : A) → At xs k x → k < n → At (take n xs) k x
  is_taken zero xs k x at less = absurd (omega arith)
  is_taken (suc n) [] k x at less = at
  is_taken (suc n) (y ∷ xs) zero x at less = at
  is_taken (suc n) (y ∷ xs) (suc k) x at less = is_taken n xs k x at (omega arith)

  pub of_dropped : (n : ℕ) (xs : List A) (k : ℕ) (x : A) → At (drop n xs) k x → At xs (n + k) x
  of_dropped zero xs k x at = let none : 0 + k ≡ k = omega arith in rw none at
  of_dropped (suc n) [] k x at = absurd (no_place k x at)
  of_dropped (suc n) (y ∷ xs) k x at = let one : suc n + k ≡ suc (n + k) = omega arith in rw one (of_dropped n xs k x at)

  pub is_dropped : (n : ℕ) (xs : List A) (k : ℕ) (x : A) → At xs (n + k) x → At (drop n xs) k x
  is_dropped zero xs k x at = let none : 0 + k ≡ k = omega arith in rw none at at
  is_dropped (suc n) [] k x at = absurd (no_place (suc n + k) x at)
  is_dropped (suc n) (y ∷ xs) k x at = let one : suc n + k ≡ suc (n + k) = omega arith in is_dropped n xs k x (rw one at at)

  pub is_member : (xs : List A) (k : ℕ) (x : A) → At xs k x → Contains xs x
  is_member xs k x at = (k, within xs k x at, get_or_from_slice_get xs k x x at)

  pub place : (xs : List A) (x : A) → Contains xs x → (k : ℕ) × At xs k x
  place xs x (k, below, is) = (k, slice_get-get_or xs k x below ∙ ap (λ (y : A). Some y) is)
