-- The places of names in a list.
use Rattle.std.specs.Prelude.{ℕ, suc, List, [], ◌∷◌, Option, Some, None, if◌then◌else◌}
use Rattle.std.specs.Str.{bytes_eq}

-- the place of the first of these names that is this one; the first place is n
abbrev pub place_from : ℕ → List (List ℕ) → List ℕ → Option ℕ
place_from n [] name = None
place_from n (x ∷ xs) name = if bytes_eq name x then Some n else place_from (suc n) xs name

-- the number of a name among these, from 0; the first of two equal names counts
abbrev pub place_in : List (List ℕ) → List ℕ → Option ℕ
place_in names name = place_from 0 names name
