-- The ends that a system has, and those of them that are in a channel.
use Rattle.std.specs.Prelude.{ℕ, Bool, List, [], ◌∷◌, Option, Some, None, if◌then◌else◌}
use Rattle.std.specs.List.{list_any}
use Rattle.pz_syntax.specs.declared.clusters.Instance.{Instance}
use Rattle.pz_syntax.specs.declared.clusters.Channel.{Channel}
use Rattle.pz_syntax.specs.Classes.{DeclTree, ModelTree}
use Rattle.pz_classes.specs.pz_classes_rules.Members.{ports, spelled}
use Rattle.pz_env_tree.specs.pz_bind_rules.Nest.{class_of, is_system, instances_at, channels_at}
use Rattle.pz_env_tree.specs.pz_bind_rules.Connections.{names_inner}
use Rattle.pz_env.specs.devices.Ends.{Named, named, is_named}

-- the first system among these declarations
abbrev pub first_of : List DeclTree → Option DeclTree
first_of [] = None
first_of (d ∷ ds) = if is_system d then Some d else first_of ds

-- the end is one of these ports of the instance of this name
abbrev pub is_port_of : List ℕ → List (List ℕ) → Named → Bool
is_port_of instance names e = list_any (λ p. is_named e (named instance p)) names

abbrev pub is_in_channel : Named → Channel → Bool
is_in_channel e h = names_inner e.instance e.port h

module _ (m : ModelTree) where
  abbrev pub is_port_at : Named → Instance → Bool
  is_port_at e x = is_port_of x.name.name (spelled (ports m (class_of m x))) e

  abbrev pub is_port_in : Named → Bool
  is_port_in e = list_any (is_port_at e) (instances_at m [])

  abbrev pub is_connected : Named → Bool
  is_connected e = list_any (is_in_channel e) (channels_at m [])
