-- Lists of classes, and rows of them, by how often each class stands there.
use Rattle.std.specs.Prelude.{◌==◌, if◌then◌else◌, ◌+◌, ℕ, Bool, false, List, [], ◌∷◌, map, get_or, Option, Some, None, slice_get, Vec}
use Rattle.std.specs.declared.alloc.Global.{Global}
use Rattle.pz_classes_lineage.specs.declared.visit.Visit.{Visit}

abbrev pub one_if : ℕ → ℕ → ℕ
one_if a b = if a == b then 1 else 0

-- how often a class stands in a list
abbrev pub times : ℕ → List ℕ → ℕ
times c [] = 0
times c (x ∷ xs) = one_if c x + times c xs

-- the row of this number, which is empty where there is none
abbrev pub row : List (Vec ℕ Global) → ℕ → List ℕ
row rows p = get_or (map (λ r. r.items) rows) p []

-- how often a class belongs among those with no parent, by what the parents have at its number
abbrev pub among_roots : Option (Option ℕ) → ℕ
among_roots None = 0
among_roots (Some None) = 1
among_roots (Some (Some q)) = 0

-- whether a class with this parent, or none, is a child of p
abbrev pub is_child_of : ℕ → Option ℕ → Bool
is_child_of p None = false
is_child_of p (Some q) = q == p

-- how often it belongs among those with the parent p
abbrev pub among_children : ℕ → Option (Option ℕ) → ℕ
among_children p None = 0
among_children p (Some o) = if is_child_of p o then 1 else 0

abbrev pub as_root : List (Option ℕ) → ℕ → ℕ
as_root parents c = among_roots (slice_get parents c)

abbrev pub as_child : List (Option ℕ) → ℕ → ℕ → ℕ
as_child parents p c = among_children p (slice_get parents c)

abbrev pub at_depth : ℕ → ℕ → Visit
at_depth depth c = record { class = c; depth = depth }
