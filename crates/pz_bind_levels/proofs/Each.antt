-- Lists whose elements fit each other, place by place.
use Rattle.std.proofs.Common.{◌≡◌, refl, ap, subst, ℕ, zero, suc, ◌<◌, List, [], ◌∷◌, ◌++◌, length, get_or, Some, slice_get, arith, ◌⊎◌, inl, inr}
use Rattle.std.proofs.lemmas.Option.{slice_get_within, slice_get-get_or}
use Rattle.pz_bind_levels.specs.devices.Expanded.{EachOf}

module _ {A : Type 0} where
  pub in_first : (xs ys : List A) (n : ℕ) (x : A) → slice_get xs n ≡ Some x → slice_get (xs ++ ys) n ≡ Some x
  in_first [] ys n x at = cc
  in_first (y ∷ xs) ys zero x at = at
  in_first (y ∷ xs) ys (suc n) x at = in_first xs ys n x at

  pub at_end : (xs : List A) (y : A) (ys : List A) → slice_get (xs ++ y ∷ ys) (length xs) ≡ Some y
  at_end [] y ys = refl
  at_end (x ∷ xs) y ys = at_end xs y ys

  pub pushed_at : (xs : List A) (x y : A) (n : ℕ) → slice_get (xs ++ x ∷ []) n ≡ Some y → (slice_get xs n ≡ Some y) ⊎ ((n ≡ length xs) × (x ≡ y))
  pushed_at [] x y zero at = let same : x ≡ y = cc in inr (refl, same)
  pushed_at [] x y (suc n) at = cc
  pushed_at (z ∷ xs) x y zero at = inl at
  pushed_at (z ∷ xs) x y (suc n) at = elim (pushed_at xs x y n at) [ inl found ↦ inl found | inr (is, same) ↦ inr (ap suc is, same) ]

  pub there : (xs : List A) (n : ℕ) → n < length xs → (x : A) × (slice_get xs n ≡ Some x)
  there [] n below = absurd (omega arith)
  there (x ∷ xs) n below = (get_or (x ∷ xs) n x, slice_get-get_or (x ∷ xs) n x below)

module _ {A B : Type 0} where
  pub none : (P : A → B → Type 0) → EachOf P [] []
  none P = record { counted = refl; each = λ n x y at _. absurd (nowhere n x at) }
    where
      nowhere : (n : ℕ) (x : A) → slice_get {X = A} [] n ≡ Some x → ⊥
      nowhere n x at = cc

  pub one_first : (P : A → B → Type 0) (x : A) (y : B) (xs : List A) (ys : List B) → P x y → EachOf P xs ys → EachOf P (x ∷ xs) (y ∷ ys)
  one_first P x y xs ys fits all = record { counted = ap suc all.counted; each = by_place }
    where
      by_place : (n : ℕ) (a : A) (b : B) → slice_get (x ∷ xs) n ≡ Some a → slice_get (y ∷ ys) n ≡ Some b → P a b
      by_place zero a b at other =
          let one : x ≡ a = cc in
          let two : y ≡ b = cc in
          subst (P a) two (subst (λ (z : A). P z y) one fits)
      by_place (suc n) a b at other = all.each n a b at other

  pub implied : (P Q : A → B → Type 0) (xs : List A) (ys : List B) → ((x : A) (y : B) → P x y → Q x y) → EachOf P xs ys → EachOf Q xs ys
  implied P Q xs ys more all = record { counted = all.counted; each = λ n x y at other. more x y (all.each n x y at other) }

  pub both : (P : A → B → Type 0) (xs xs' : List A) (ys ys' : List B) → EachOf P xs ys → EachOf P xs' ys' → EachOf P (xs ++ xs') (ys ++ ys')
  both P [] xs' [] ys' all more = more
  both P [] xs' (y ∷ ys) ys' all more = absurd (let wrong : zero ≡ suc (length ys) = all.counted in omega arith)
  both P (x ∷ xs) xs' [] ys' all more = absurd (let wrong : suc (length xs) ≡ zero = all.counted in omega arith)
  both P (x ∷ xs) xs' (y ∷ ys) ys' all more =
      let counts : suc (length xs) ≡ suc (length ys) = all.counted in
      one_first P x y (xs ++ xs') (ys ++ ys') (all.each 0 x y refl refl)
      (both P xs xs' ys ys' (record { counted = omega arith; each = λ n a b at other. all.each (suc n) a b at other }) more)

  pub pushed : (P : A → B → Type 0) (xs : List A) (ys : List B) (x : A) (y : B) → EachOf P xs ys → P x y → EachOf P (xs ++ x ∷ []) (ys ++ y ∷ [])
  pushed P xs ys x y all fits = both P xs (x ∷ []) ys (y ∷ []) all (one_first P x y [] [] fits (none P))

  -- what is there of the one is there of the other
  pub partner : (P : A → B → Type 0) (xs : List A) (ys : List B) → EachOf P xs ys → (n : ℕ) (y : B) → slice_get ys n ≡ Some y → (x : A) × (slice_get xs n ≡ Some x) × P x y
  partner P xs ys all n y at =
      let below : n < length ys = slice_get_within ys n y at in
      let counts : length xs ≡ length ys = all.counted in
      let found = there xs n (omega arith) in
      (found.0, found.1, all.each n found.0 y found.1 at)
