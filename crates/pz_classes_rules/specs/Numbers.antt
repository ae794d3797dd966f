-- The numbers of classes. The class of the first declaration is number 1, and number 0 is Array,
-- which no declaration has. A system has a number too, and no name.
use Rattle.std.specs.Prelude.{ℕ, zero, suc, Bool, false, List, [], ◌∷◌, Option, Some, None, if◌then◌else◌, slice_get}
use Rattle.std.specs.Option.{option_map_or}
use Rattle.std.specs.Str.{bytes_eq}
use Rattle.pz_classes_code.specs.pz_syntax.declared.names.Id.{Id}
use Rattle.pz_classes_code.specs.pz_syntax.Classes.{DeclTree, data_class, process_class, cluster_class, system, ModelTree}

-- the name of the class that is declared
abbrev pub declared_name : DeclTree → Option Id
declared_name (data_class c) = Some c.name
declared_name (process_class c) = Some c.name
declared_name (cluster_class c) = Some c.name
declared_name (system s) = None

abbrev pub is_named : List ℕ → DeclTree → Bool
is_named name d = option_map_or (λ x. bytes_eq name x.name) (declared_name d) false

-- the declaration of the class of this number
abbrev pub declaration : ModelTree → ℕ → Option DeclTree
declaration m zero = None
declaration m (suc i) = slice_get m.decls i

-- the number of the first of these declarations that has the name; the first one is number n
abbrev pub first_named : List DeclTree → ℕ → List ℕ → Option ℕ
first_named [] n name = None
first_named (d ∷ ds) n name = if is_named name d then Some n else first_named ds (suc n) name

-- the class of this name; where a name is declared twice, the first declaration counts
abbrev pub class : ModelTree → List ℕ → Option ℕ
class m name = first_named m.decls 1 name

-- the name of the class that is declared, empty for a system
abbrev pub spelling : DeclTree → List ℕ
spelling d = option_map_or (λ x. x.name) (declared_name d) []
