-- The fields, variables and ports of a class: those of its ancestors from the root on, in the order
-- of the text.
use Rattle.std.specs.Prelude.{ℕ, List, [], ◌∷◌, ◌++◌, map, Option}
use Rattle.std.specs.Option.{unwrap_or, option_map_or}
use Rattle.std.specs.List.{flat_map}
use Rattle.pz_classes_code.specs.pz_syntax.declared.names.Id.{Id}
use Rattle.pz_classes_code.specs.pz_syntax.declared.classes.VarGroup.{VarGroup}
use Rattle.pz_classes_code.specs.pz_syntax.Classes.{DeclTree, data_class, process_class, cluster_class, ModelTree}
use Rattle.pz_classes_rules.specs.Numbers.{declaration}
use Rattle.pz_classes_rules.specs.Ancestors.{ancestors}

abbrev pub grouped : List VarGroup → List Id
grouped groups = flat_map (λ g. g.names) groups

-- the names of a section, none where it is not written
abbrev pub section : Option (List VarGroup) → List Id
section groups = grouped (unwrap_or groups [])

abbrev pub own_fields : DeclTree → List Id
own_fields (data_class c) = section c.variables
own_fields _ = []

-- parameters before variables
abbrev pub own_variables : DeclTree → List Id
own_variables (process_class c) = section c.parameters ++ section c.variables
own_variables _ = []

abbrev pub own_ports : DeclTree → List Id
own_ports (process_class c) = unwrap_or c.ports []
own_ports (cluster_class c) = unwrap_or c.ports []
own_ports _ = []

-- what each of these classes has of its own, that of the last one first
abbrev pub from_root : (DeclTree → List Id) → ModelTree → List ℕ → List Id
from_root own m [] = []
from_root own m (c ∷ line) = from_root own m line ++ option_map_or own (declaration m c) []

abbrev pub fields : ModelTree → ℕ → List Id
fields m c = from_root own_fields m (ancestors m c)

-- of a process class, its parameters and its variables
abbrev pub variables : ModelTree → ℕ → List Id
variables m c = from_root own_variables m (ancestors m c)

abbrev pub ports : ModelTree → ℕ → List Id
ports m c = from_root own_ports m (ancestors m c)

abbrev pub spelled : List Id → List (List ℕ)
spelled = map (λ x. x.name)
