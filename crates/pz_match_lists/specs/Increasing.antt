-- Increasing lists of numbers.
use Rattle.std.specs.Prelude.{◌<◌, ℕ, List, [], AllPairs, slice_index_or}

abbrev pub Increasing : List ℕ → Type 0
Increasing = AllPairs (λ m n. m < n)

-- the list with this number; there are no numbers in those that are not there
abbrev pub list_at : List (List ℕ) → ℕ → List ℕ
list_at lists k = slice_index_or lists k []
