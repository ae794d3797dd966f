-- Sets of names, as lists in the order of their first coming.
use Rattle.std.specs.Prelude.{◌≡◌, ℕ, Bool, List, [], ◌∷◌, ◌++◌, map, if◌then◌else◌}
use Rattle.std.specs.List.{list_any}
use Rattle.std.specs.Str.{bytes_eq}
use Rattle.pz_check_instances.specs.declared.name_set.NameSet.{NameSet}

-- the names of a set
abbrev pub names_in : NameSet → List (List ℕ)
names_in s = map (λ k. k.now) s.set.keys

abbrev pub has_name : List (List ℕ) → List ℕ → Bool
has_name names q = list_any (bytes_eq q) names

-- with one more at the end, unless it is there
abbrev pub with_name : List (List ℕ) → List ℕ → List (List ℕ)
with_name names q = if has_name names q then names else names ++ q ∷ []

-- with each of these added in turn
abbrev pub with_all : List (List ℕ) → List (List ℕ) → List (List ℕ)
with_all names [] = names
with_all names (q ∷ qs) = with_all (with_name names q) qs

-- the same names, in any order and however often
abbrev pub SameNames : List (List ℕ) → List (List ℕ) → Type 0
SameNames xs ys = (q : List ℕ) → has_name xs q ≡ has_name ys q
