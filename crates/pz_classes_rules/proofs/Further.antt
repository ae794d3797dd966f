-- What is left of a list, one element further.
use Rattle.std.proofs.Common.{◌≡◌, ℕ, zero, suc, List, [], ◌∷◌, drop, Some, slice_get}

pub further : {X : Type 0} (xs : List X) (n : ℕ) (x : X) (rest : List X) → drop n xs ≡ x ∷ rest → (slice_get xs n ≡ Some x) × (drop (suc n) xs ≡ rest)
further [] zero x rest is = cc
further [] (suc n) x rest is = cc
further (y ∷ ys) zero x rest is = (cc, cc)
further (y ∷ ys) (suc n) x rest is = further ys n x rest is
