-- An order in which each class comes after its ancestors.
use Rattle.std.specs.Prelude.{◌≡◌, ◌≤◌, ℕ, List, [], ◌∷◌, length, Contains}
use Rattle.pz_classes_code.specs.pz_syntax.Classes.{ModelTree}
use Rattle.pz_classes_lineage.specs.declared.visit.Visit.{Visit}
use Rattle.pz_classes_lineage.specs.Preorder.{outermost, visited}
use Rattle.pz_classes_rules.specs.Ancestors.{ancestors}

-- While these classes are open, the innermost first, each visit leaves all but the outermost, as
-- many as its depth says, and opens its class. What is open then are the ancestors of that class.
abbrev pub Opens : ModelTree → List ℕ → List Visit → Type 0
Opens m line [] = Unit {0}
Opens m line (v ∷ vs) = (v.depth ≤ length line) × (ancestors m v.class ≡ v.class ∷ outermost v.depth line) × Opens m (ancestors m v.class) vs

-- a walk that comes to each class of the model, Array included
pub record IsPreorderOf (m : ModelTree) (visits : List Visit) : Type 0 where
  pub nested : Opens m [] visits
  pub whole : (c : ℕ) → c ≤ length m.decls → Contains (visited visits) c
  pub within : (c : ℕ) → Contains (visited visits) c → c ≤ length m.decls
