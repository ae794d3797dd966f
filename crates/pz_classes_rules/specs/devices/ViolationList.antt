-- The violations of C1 to C3 as a list, class by class, as a device of the proofs.
use Rattle.std.specs.Prelude.{ℕ, suc, Bool, false, nat_eq, List, [], ◌∷◌, ◌++◌}
use Rattle.std.specs.Option.{option_map_or}
use Rattle.std.specs.List.{list_any}
use Rattle.pz_classes_code.specs.pz_syntax.declared.names.Id.{Id}
use Rattle.pz_classes_code.specs.pz_syntax.Classes.{DeclTree, ModelTree}
use Rattle.pz_check_violations.specs.declared.violation.Violation.{Violation}
use Rattle.pz_classes_rules.specs.Numbers.{declared_name}
use Rattle.pz_classes_rules.specs.Ancestors.{extended, parent, ancestors}
use Rattle.pz_classes_rules.specs.Violations.{breaks_c1, breaks_c2}
use Rattle.pz_check_violations.specs.Order.{violation}
use Rattle.pz_check_violations.specs.Least.{listed}

abbrev pub breaks_c3 : ModelTree → ℕ → Bool
breaks_c3 m c = option_map_or (λ p. list_any (nat_eq c) (ancestors m p)) (parent m c) false

abbrev pub of_name : ModelTree → ℕ → Id → List Violation
of_name m c name = listed (breaks_c1 m c name.name) (violation 1 name.pos) ++ listed (breaks_c3 m c) (violation 3 name.pos)

abbrev pub of_parent : ModelTree → DeclTree → Id → List Violation
of_parent m d name = listed (breaks_c2 m d name.name) (violation 2 name.pos)

-- those of one class
abbrev pub of_class : ModelTree → ℕ → DeclTree → List Violation
of_class m c d = option_map_or (of_name m c) (declared_name d) [] ++ option_map_or (of_parent m d) (extended d) []

-- those of these classes, of which the first is number n
abbrev pub among : ModelTree → ℕ → List DeclTree → List Violation
among m n [] = []
among m n (d ∷ ds) = of_class m n d ++ among m (suc n) ds

abbrev pub violations : ModelTree → List Violation
violations m = among m 1 m.decls
