-- The instances and channels of a cluster class or of the system.
use Rattle.std.specs.Prelude.{ℕ, List, [], Option, None, if◌then◌else◌}
use Rattle.std.specs.Option.{unwrap_or}
use Rattle.pz_classes_code.specs.pz_syntax.declared.names.Id.{Id}
use Rattle.pz_classes_code.specs.pz_syntax.declared.clusters.Instance.{Instance}
use Rattle.pz_classes_code.specs.pz_syntax.declared.clusters.Channel.{Channel}
use Rattle.pz_classes_code.specs.pz_syntax.Classes.{DeclTree, process_class, cluster_class, system, ModelTree}
use Rattle.pz_classes_code.specs.ReservedNames.{is_unsupported}
use Rattle.pz_classes_rules.specs.Numbers.{class}
use Rattle.pz_classes_rules.specs.Ancestors.{ancestors}
use Rattle.pz_classes_rules.specs.Members.{section, from_root}
use Rattle.pz_classes_rules.specs.NameRules.{has_instances}

abbrev pub instances : DeclTree → List Instance
instances (cluster_class c) = unwrap_or c.instances []
instances (system s) = unwrap_or s.instances []
instances _ = []

abbrev pub channels : DeclTree → List Channel
channels (cluster_class c) = unwrap_or c.channels []
channels (system s) = unwrap_or s.channels []
channels _ = []

-- the number of the class of this name, if it may have instances
abbrev pub instance_class : ModelTree → List ℕ → Option ℕ
instance_class m name = if is_unsupported name then None else if has_instances m name then class m name else None

abbrev pub own_parameters : DeclTree → List Id
own_parameters (process_class c) = section c.parameters
own_parameters (cluster_class c) = section c.parameters
own_parameters _ = []

-- the parameters of a class, those of its ancestors included
abbrev pub parameters : ModelTree → ℕ → List Id
parameters m c = from_root own_parameters m (ancestors m c)
