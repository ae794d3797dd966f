-- The process methods of a model, by their numbers.
use Rattle.std.specs.Prelude.{ℕ, List, [], map, Option, Some, None, slice_get}
use Rattle.std.specs.Option.{unwrap_or, option_map_or}
use Rattle.std.specs.List.{flat_map}
use Rattle.pz_classes_rules.specs.pz_syntax.declared.names.Id.{Id}
use Rattle.pz_classes_rules.specs.pz_syntax.Statements.{Statements, no_statements}
use Rattle.pz_classes_rules.specs.pz_syntax.Classes.{DeclTree, data_class, process_class, ProcessMethodTree, ModelTree}

-- the methods that a class itself declares, in the order of the text; one of a data class has no
-- statements, and stands there as None
abbrev pub declared_methods : DeclTree → List (Option ProcessMethodTree)
declared_methods (data_class d) = map (λ r. None) (unwrap_or d.methods [])
declared_methods (process_class p) = map Some (unwrap_or p.methods [])
declared_methods _ = []

-- the methods of a model are numbered through from 0, in the order of the text
abbrev pub methods : ModelTree → List (Option ProcessMethodTree)
methods m = flat_map declared_methods m.decls

-- the process method of this number, if it is one
abbrev pub method_at : ModelTree → ℕ → Option ProcessMethodTree
method_at m k = unwrap_or (slice_get (methods m) k) None

-- the statements of its body
abbrev pub body_at : ModelTree → ℕ → Statements Id Id Id
body_at m k = option_map_or (λ r. r.body) (method_at m k) no_statements
