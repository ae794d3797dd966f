-- Two lists of which each element of the one stands for that of the other.
use Rattle.std.proofs.Common.{◌≡◌, ◌<◌, ℕ, zero, suc, List, [], ◌∷◌, map, length, get_or, refl, sym, subst, ap, arith}
use Rattle.std.specs.List.{All, AllPairs, AllZip, Contains}
use Rattle.std.proofs.lemmas.List.Elements.{Contains-get_or}
use Rattle.pz_term_enabled.proofs.Lists.{an_element}

module _ {X N : Type 0} (C : X → N → Type 0) where
  zip_length : (xs : List X) (ns : List N) → AllZip C xs ns → length xs ≡ length ns
  zip_length [] [] zip = refl
  zip_length [] (n ∷ ns) zip = absurd zip
  zip_length (x ∷ xs) [] zip = absurd zip
  zip_length (x ∷ xs) (n ∷ ns) zip = ap (λ (k : ℕ). suc k) (zip_length xs ns zip.1)

  zip_at : (xs : List X) (ns : List N) (k : ℕ) (d : X) (e : N) → AllZip C xs ns → k < length xs → C (get_or xs k d) (get_or ns k e)
  zip_at [] ns k d e zip within = absurd (omega (arith, within))
  zip_at (x ∷ xs) [] k d e zip within = absurd zip
  zip_at (x ∷ xs) (n ∷ ns) zero d e zip within = zip.0
  zip_at (x ∷ xs) (n ∷ ns) (suc k) d e zip within = zip_at xs ns k d e zip.1 (omega (arith, within))

  pub zip_ordered : (R : X → X → Type 0) (S : N → N → Type 0) → ((x y : X) (m n : N) → C x m → C y n → S m n → R x y)
      → (xs : List X) (ns : List N) → AllZip C xs ns → AllPairs S ns → AllPairs R xs
  zip_ordered R S each xs ns zip pairs i j d before within =
      let inside : j < length ns = subst (λ (k : ℕ). j < k) (zip_length xs ns zip) within in
      let e : N = an_element ns j inside in
      let earlier : i < length xs = omega (arith, before, within) in
      each (get_or xs i d) (get_or xs j d) (get_or ns i e) (get_or ns j e) (zip_at xs ns i d e zip earlier) (zip_at xs ns j d e zip within) (pairs i j e before inside)

  pub zip_all : (P : N → Type 0) (Q : X → Type 0) → ((x : X) (n : N) → C x n → P n → Q x) → (xs : List X) (ns : List N) → AllZip C xs ns → All P ns → All Q xs
  zip_all P Q each xs ns zip all k d within =
      let inside : k < length ns = subst (λ (l : ℕ). k < l) (zip_length xs ns zip) within in
      let e : N = an_element ns k inside in
      each (get_or xs k d) (get_or ns k e) (zip_at xs ns k d e zip within) (all k e inside)

  pub record IsPaired (xs : List X) (n : N) : Type 0 where
    pub one : X
    pub within : Contains xs one
    pub pairs : C one n

  pub zip_contains : (xs : List X) (ns : List N) → AllZip C xs ns → (n : N) → Contains ns n → IsPaired xs n
  zip_contains xs ns zip n (k, within, is) =
      let inside : k < length xs = subst (λ (l : ℕ). k < l) (sym (zip_length xs ns zip)) within in
      let d : X = an_element xs k inside in
      record { one = get_or xs k d; within = Contains-get_or xs k d inside; pairs = subst (λ (m : N). C (get_or xs k d) m) is (zip_at xs ns k d n zip inside) }

-- each stands for what it is seen as
pub zip_view : {X N : Type 0} (view : X → N) (xs : List X) (ns : List N) → map view xs ≡ ns → AllZip (λ x n. view x ≡ n) xs ns
zip_view {X} {N} view xs ns is = subst (λ (l : List N). AllZip (λ x n. view x ≡ n) xs l) is (itself xs)
  where
    itself : (ys : List X) → AllZip (λ x n. view x ≡ n) ys (map view ys)
    itself [] = tt
    itself (y ∷ ys) = (refl, itself ys)
