-- The parent of a class, and its ancestors.
use Rattle.std.specs.Prelude.{ℕ, zero, suc, List, [], ◌∷◌, length, Option, None, if◌then◌else◌}
use Rattle.std.specs.Option.{option_map_or, option_and_then}
use Rattle.pz_classes_code.specs.pz_syntax.declared.names.Id.{Id}
use Rattle.pz_classes_code.specs.pz_syntax.Classes.{DeclTree, data_class, process_class, cluster_class, system, ModelTree}
use Rattle.pz_classes_code.specs.ReservedNames.{is_primitive, is_unsupported}
use Rattle.pz_classes_rules.specs.Numbers.{declaration, class}

-- the name behind `extends`
abbrev pub extended : DeclTree → Option Id
extended (data_class c) = c.parent
extended (process_class c) = c.parent
extended (cluster_class c) = None
extended (system s) = None

-- The class that is extended by this name. A primitive's name is always the primitive, which adds
-- nothing, and a class that is left out of the language counts as none.
abbrev pub parent_named : ModelTree → List ℕ → Option ℕ
parent_named m name = if is_unsupported name then None else if is_primitive name then None else class m name

abbrev pub parent_of : ModelTree → DeclTree → Option ℕ
parent_of m d = option_and_then (λ x. parent_named m x.name) (extended d)

-- the parent of the class of this number, of whatever sort
abbrev pub parent : ModelTree → ℕ → Option ℕ
parent m c = option_and_then (parent_of m) (declaration m c)

-- a class, its parent by this function, and so on, at most n of them
abbrev pub followed : (ℕ → Option ℕ) → ℕ → ℕ → List ℕ
followed up zero c = []
followed up (suc n) c = c ∷ option_map_or (followed up n) (up c) []

-- The ancestors of a class from itself on. As many steps as there are classes, Array included, reach
-- them all; where parents go round, classes come again.
abbrev pub ancestors : ModelTree → ℕ → List ℕ
ancestors m c = followed (parent m) (suc (length m.decls)) c
