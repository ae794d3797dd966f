-- The names of the classes of a model by their numbers.
use Rattle.std.specs.Prelude.{ℕ, List, ◌∷◌, map, codes}
use Rattle.pz_classes_code.specs.pz_syntax.Classes.{ModelTree}
use Rattle.pz_classes_code.specs.pz_value.declared.value.ClassId.{ClassId}
use Rattle.pz_classes_rules.specs.Numbers.{spelling}

-- the name of each class at its number, empty for a system
abbrev pub class_names : ModelTree → List (List ℕ)
class_names m = codes "Array" ∷ map spelling m.decls

abbrev pub class_id : ℕ → ClassId
class_id c = record { 0 = c }
