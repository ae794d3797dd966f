-- What a name stands for: a class of some sort.
use Rattle.std.specs.Prelude.{ℕ, Bool, true, false, List}
use Rattle.std.specs.Option.{option_map_or, option_and_then}
use Rattle.pz_classes_code.specs.pz_syntax.Classes.{DeclTree, data_class, process_class, cluster_class, ModelTree}
use Rattle.pz_classes_rules.specs.Numbers.{declaration, class}

abbrev pub is_data : DeclTree → Bool
is_data (data_class c) = true
is_data _ = false

abbrev pub is_process : DeclTree → Bool
is_process (process_class c) = true
is_process _ = false

abbrev pub is_cluster : DeclTree → Bool
is_cluster (cluster_class c) = true
is_cluster _ = false

-- the model declares a class of this sort by the name
abbrev pub is_declared_as : (DeclTree → Bool) → ModelTree → List ℕ → Bool
is_declared_as sort m name = option_map_or sort (option_and_then (declaration m) (class m name)) false
