-- What stands where in a list with one more element behind it.
use Rattle.std.proofs.Common.{◌≡◌, ◌<◌, ◌+◌, ℕ, zero, suc, List, [], ◌∷◌, ◌++◌, length, get_or, Some, refl, subst, ap, arith}
use Rattle.std.specs.Prelude.{slice_get}
use Rattle.std.specs.List.{All}
use Rattle.std.proofs.lemmas.List.{get_or_append_left, length-append}

pub got_first : {X : Type 0} (xs ys : List X) (i : ℕ) → i < length xs → slice_get (xs ++ ys) i ≡ slice_get xs i
got_first [] ys i low = absurd (omega (arith, low))
got_first (x ∷ xs) ys zero low = refl
got_first (x ∷ xs) ys (suc i) low = got_first xs ys i (omega (arith, low))

pub got_last : {X : Type 0} (xs : List X) (y : X) → slice_get (xs ++ y ∷ []) (length xs) ≡ Some y
got_last [] y = refl
got_last (x ∷ xs) y = got_last xs y

-- all but the last, and the last
pub record Split {X : Type 0} (xs : List X) (k : ℕ) : Type 0 where
  pub front : List X
  pub last : X
  pub is : xs ≡ front ++ last ∷ []
  pub long : length front ≡ k

pub split_last : {X : Type 0} (xs : List X) (k : ℕ) → length xs ≡ suc k → Split xs k
split_last [] k long = absurd (omega (arith, long))
split_last (x ∷ []) k long = record { front = []; last = x; is = refl; long = omega (arith, long) }
split_last (x ∷ y ∷ ys) zero long = absurd (omega (arith, long))
split_last (x ∷ y ∷ ys) (suc k) long =
    let rest = split_last (y ∷ ys) k (omega (arith, long)) in
    record { front = x ∷ rest.front; last = rest.last; is = ap (λ zs. x ∷ zs) rest.is; long = ap suc rest.long }

pub All-front : {X : Type 0} (P : X → Type 0) (xs ys : List X) → All P (xs ++ ys) → All P xs
All-front P xs ys all k d within =
    let long : length (xs ++ ys) ≡ length xs + length ys = length-append xs ys in
    let there : P (get_or (xs ++ ys) k d) = all k d (omega (arith, long, within)) in
    subst P (get_or_append_left xs ys d k within) there

pub All-last : {X : Type 0} (P : X → Type 0) (xs : List X) (y : X) → All P (xs ++ y ∷ []) → P y
All-last P [] y all = all 0 y (omega arith)
All-last P (x ∷ xs) y all = All-last P xs y (λ k d within. all (suc k) d (omega (arith, within)))
