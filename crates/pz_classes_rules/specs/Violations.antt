-- The rules C1 to C3 of the checker.
use Rattle.std.specs.Prelude.{◌≡◌, ℕ, Bool, true, false, not, ◌&&◌, ◌||◌, nat_eq, IsTrue, List, Contains, Some, if◌then◌else◌}
use Rattle.std.specs.Option.{option_map_or}
use Rattle.pz_classes_code.specs.pz_syntax.declared.names.Id.{Id}
use Rattle.pz_classes_code.specs.pz_syntax.Classes.{DeclTree, data_class, process_class, ModelTree}
use Rattle.pz_check_violations.specs.declared.violation.Violation.{Violation}
use Rattle.pz_check_violations.specs.Order.{violation}
use Rattle.pz_classes_code.specs.ReservedNames.{is_primitive, is_unsupported, is_object}
use Rattle.pz_classes_rules.specs.Numbers.{declared_name, declaration, class}
use Rattle.pz_classes_rules.specs.Kinds.{is_data, is_declared_as}
use Rattle.pz_classes_rules.specs.Ancestors.{extended, parent, ancestors}

-- the class of this number is not the first of its name
abbrev pub is_again : ModelTree → ℕ → List ℕ → Bool
is_again m c name = not (option_map_or (nat_eq c) (class m name) false)

-- C1: declared a second time, or with a primitive's name. A class that is left out of the language
-- is refused for that alone.
abbrev pub breaks_c1 : ModelTree → ℕ → List ℕ → Bool
breaks_c1 m c name = not (is_unsupported name) && (is_primitive name || is_again m c name)

abbrev pub same_sort : DeclTree → DeclTree → Bool
same_sort (data_class c) (data_class d) = true
same_sort (process_class c) (process_class d) = true
same_sort _ _ = false

-- a class of the same sort has this name
abbrev pub is_of_sort : ModelTree → DeclTree → List ℕ → Bool
is_of_sort m d = is_declared_as (same_sort d) m

-- a data class may extend Object; every other parent is a class of the model of the same sort
abbrev pub may_extend : ModelTree → DeclTree → List ℕ → Bool
may_extend m d name = if is_primitive name then is_data d && is_object name else is_of_sort m d name

-- C2: a parent that is unknown, of another sort or a primitive
abbrev pub breaks_c2 : ModelTree → DeclTree → List ℕ → Bool
breaks_c2 m d name = not (is_unsupported name) && not (may_extend m d name)

pub data Violates (m : ModelTree) : Violation → Type 0 where
  -- at the class's name
  c1 : (c : ℕ) (d : DeclTree) (name : Id) → declaration m c ≡ Some d → declared_name d ≡ Some name
      → IsTrue (breaks_c1 m c name.name) → Violates m (violation 1 name.pos)
  -- at the parent's name
  c2 : (c : ℕ) (d : DeclTree) (name : Id) → declaration m c ≡ Some d → extended d ≡ Some name
      → IsTrue (breaks_c2 m d name.name) → Violates m (violation 2 name.pos)
  -- C3: a class that is among the ancestors of its parent, at the class's name
  c3 : (c p : ℕ) (d : DeclTree) (name : Id) → declaration m c ≡ Some d → declared_name d ≡ Some name
      → parent m c ≡ Some p → Contains (ancestors m p) c → Violates m (violation 3 name.pos)
