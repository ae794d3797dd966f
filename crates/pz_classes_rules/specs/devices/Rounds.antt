-- Which classes are among their own ancestors, as the code keeps it.
use Rattle.std.specs.Prelude.{◌≡◌, ◌↔◌, ℕ, Bool, true, List, Some, slice_get}
use Rattle.pz_classes_code.specs.pz_syntax.Classes.{ModelTree}
use Rattle.pz_classes_lineage.specs.Reached.{GoesRound}
use Rattle.pz_classes_rules.specs.Ancestors.{parent}

-- at the number of each class, whether it is among the ancestors of its parent
abbrev pub AreRound : ModelTree → List Bool → Type 0
AreRound m round = (c : ℕ) → (slice_get round c ≡ Some true) ↔ GoesRound (parent m) c
