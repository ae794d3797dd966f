-- The classes that parents lead to.
use Rattle.std.specs.Prelude.{◌≡◌, ℕ, Some, Contains}
use Rattle.pz_classes_code.specs.pz_syntax.Classes.{DeclTree, ModelTree}
use Rattle.pz_classes_lineage.specs.Reached.{Reaches}
use Rattle.pz_classes_rules.specs.Numbers.{declaration}
use Rattle.pz_classes_rules.specs.Ancestors.{parent, ancestors}

-- the ancestors of a class that is declared are the classes that it reaches, and no others
abbrev pub AncestorsAreReached : Type 0
AncestorsAreReached = (m : ModelTree) (c : ℕ) (d : DeclTree) → declaration m c ≡ Some d → (k : ℕ)
    → (Contains (ancestors m c) k → Reaches (parent m) c k) × (Reaches (parent m) c k → Contains (ancestors m c) k)
