-- What an end of a channel needs.
use Rattle.std.specs.Prelude.{ℕ, List, if◌then◌else◌}
use Rattle.std.specs.Option.{option_map_or}
use Rattle.pz_classes_code.specs.pz_syntax.declared.clusters.Instance.{Instance}
use Rattle.pz_classes_code.specs.pz_syntax.declared.clusters.ChannelEnd.{ChannelEnd}
use Rattle.pz_classes_code.specs.pz_syntax.declared.clusters.ChannelEnd.TheVariants.{Inner, Outer}
use Rattle.pz_classes_code.specs.pz_syntax.Classes.{DeclTree, ModelTree}
use Rattle.pz_classes.specs.pz_classes_rules.Kinds.{is_cluster}
use Rattle.pz_classes.specs.pz_classes_rules.Instances.{instance_class}
use Rattle.pz_classes.specs.pz_classes_rules.ChannelRules.{instance_named}
use Rattle.pz_check_instances.specs.declared.needs.Need.{Need}
use Rattle.pz_check_instances.specs.declared.needs.Need.TheVariants.{Nothing, Port, Missing}

abbrev pub need_of_instance : ModelTree → Instance → Need
need_of_instance m i = option_map_or (λ k. Port k) (instance_class m i.class.name) Nothing

abbrev pub need_of_inner : ModelTree → DeclTree → List ℕ → Need
need_of_inner m d name = option_map_or (need_of_instance m) (instance_named d name) Missing

abbrev pub need_of_outer : ℕ → DeclTree → Need
need_of_outer c d = if is_cluster d then Port c else Missing

abbrev pub need : ModelTree → ℕ → DeclTree → ChannelEnd → Need
need m c d (Inner i port) = need_of_inner m d i.name
need m c d (Outer port) = need_of_outer c d
