-- What stands in the classes of a model, as a device of the proofs.
use Rattle.std.specs.Prelude.{ℕ, false, List, [], ◌∷◌, map, length, slice_get}
use Rattle.std.specs.List.{flat_map}
use Rattle.std.specs.Option.{option_map_or}
use Rattle.pz_classes.specs.pz_syntax.declared.clusters.Instance.{Instance}
use Rattle.pz_classes.specs.pz_syntax.Classes.{DeclTree, data_class, process_class, cluster_class, system, ModelTree}
use Rattle.pz_classes.specs.pz_classes_rules.Kinds.{is_cluster}
use Rattle.pz_classes.specs.pz_classes_rules.Instances.{instances, channels, instance_class}
use Rattle.pz_check_size.specs.declared.nodes.Held.{Held}
use Rattle.pz_check_size.specs.declared.nodes.Node.{Node}
use Rattle.pz_check_size.specs.declared.totals.Totals.{Totals}
use Rattle.pz_check_size.specs.devices.Levels.{none_yet, capped_channels}

-- the instances in the class of this number
abbrev pub held_by : List Node → ℕ → List Held
held_by nodes c = option_map_or (λ n. n.held) (slice_get nodes c) []

-- an instance, if its class may have instances
abbrev pub held_of : ModelTree → Instance → List Held
held_of m i = option_map_or (λ k. record { class = k; pos = i.class.pos } ∷ []) (instance_class m i.class.name) []

abbrev pub all_held : ModelTree → List Instance → List Held
all_held m is = flat_map (held_of m) is

-- one of what is declared, without its instances
abbrev pub own_totals : DeclTree → Totals
own_totals (data_class c) = none_yet
own_totals (process_class c) = record { processes = 1; clusters = 0; channels = 0 }
own_totals (cluster_class c) = record { processes = 0; clusters = 1; channels = capped_channels (length (channels (cluster_class c))) }
own_totals (system s) = record { processes = 0; clusters = 0; channels = capped_channels (length (channels (system s))) }

abbrev pub node_of : ModelTree → DeclTree → Node
node_of m d = record { own = own_totals d; is_cluster = is_cluster d; held = all_held m (instances d) }

-- by the number of the class; nothing stands in Array
abbrev pub nodes : ModelTree → List Node
nodes m = record { own = none_yet; is_cluster = false; held = [] } ∷ map (node_of m) m.decls
