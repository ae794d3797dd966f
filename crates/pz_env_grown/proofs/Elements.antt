-- Elements of lists.
use Rattle.std.proofs.Common.{◌≡◌, refl, zero, suc, List, [], ◌∷◌, arith, ◌⊎◌, inl, inr}
use Rattle.std.specs.List.{Contains}

pub none_in : {A : Type 0} (y : A) → Contains [] y → ⊥
none_in y here = omega (arith, here.1)

pub first_in : {A : Type 0} (x : A) (xs : List A) → Contains (x ∷ xs) x
first_in x xs = (0, omega arith, refl)

pub later_in : {A : Type 0} (x : A) (xs : List A) (y : A) → Contains xs y → Contains (x ∷ xs) y
later_in x xs y (k, below, is) = (suc k, omega arith, is)

pub in_cases : {A : Type 0} (x : A) (xs : List A) (y : A) → Contains (x ∷ xs) y → (x ≡ y) ⊎ Contains xs y
in_cases x xs y (zero, below, is) = inl is
in_cases x xs y (suc k, below, is) = inr (k, omega arith, is)
