-- The names of classes that no model declares.
use Rattle.std.specs.Prelude.{ℕ, Bool, List, [], ◌∷◌, codes}
use Rattle.std.specs.Str.{bytes_eq}
use Rattle.std.specs.List.{list_any}

-- the primitive classes
abbrev pub primitives : List (List ℕ)
primitives = codes "Object" ∷ codes "Nil" ∷ codes "Boolean" ∷ codes "Integer" ∷ codes "Char" ∷ codes "String" ∷ codes "Array" ∷ []

-- the classes that are left out of the language
abbrev pub unsupported : List (List ℕ)
unsupported = codes "Real" ∷ codes "Float" ∷ codes "RandomGenerator" ∷ []

abbrev pub is_primitive : List ℕ → Bool
is_primitive name = list_any (bytes_eq name) primitives

abbrev pub is_unsupported : List ℕ → Bool
is_unsupported name = list_any (bytes_eq name) unsupported

abbrev pub is_object : List ℕ → Bool
is_object name = bytes_eq name (codes "Object")

abbrev pub is_array : List ℕ → Bool
is_array name = bytes_eq name (codes "Array")
