-- Nestings of parts that are seen as other things.
use Rattle.std.proofs.Common.{◌≡◌, ℕ, max, List, [], ◌∷◌, map, Option, Some, None, option_map, refl, ap}
use Rattle.pz_syntax.specs.ModelNesting.{greatest, optional_nesting}

pub greatest_map : {A B : Type 0} (nesting_of : B → ℕ) (view : A → B) (xs : List A) → greatest nesting_of (map view xs) ≡ greatest (λ x. nesting_of (view x)) xs
greatest_map nesting_of view [] = refl
greatest_map nesting_of view (x ∷ xs) = ap (max (nesting_of (view x))) (greatest_map nesting_of view xs)

pub methods_map : {A B : Type 0} (nesting_of : B → ℕ) (view : A → B) (methods : Option (List A)) → optional_nesting (greatest nesting_of) (option_map (map view) methods) ≡ optional_nesting (greatest (λ x. nesting_of (view x))) methods
methods_map nesting_of view None = refl
methods_map nesting_of view (Some xs) = greatest_map nesting_of view xs
