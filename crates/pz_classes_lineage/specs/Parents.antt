-- A list that has the parent of each class at its number.
use Rattle.std.specs.Prelude.{◌≡◌, ◌<◌, ℕ, List, Option, Some, length, slice_get}
use Rattle.std.specs.Option.{option_and_then}

abbrev pub parent_in : List (Option ℕ) → ℕ → Option ℕ
parent_in parents c = option_and_then (λ p. p) (slice_get parents c)

-- each parent is one of these classes
abbrev pub AreWithin : List (Option ℕ) → Type 0
AreWithin parents = (c p : ℕ) → parent_in parents c ≡ Some p → p < length parents
