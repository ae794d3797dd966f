-- The first line that is refused, computed.
use Rattle.std.specs.Prelude.{ℕ, suc, nat_le, nat_lt, Bool, not, ◌&&◌, ◌||◌, if◌then◌else◌, List, [], ◌∷◌, Option, Some, None, is_some}
use Rattle.std.specs.List.{list_any}
use Rattle.std.specs.Str.{bytes_eq}
use Rattle.pz_env_rules.specs.pz_syntax.declared.clusters.Instance.{Instance}
use Rattle.pz_env_rules.specs.pz_syntax.Classes.{ModelTree}
use Rattle.pz_env_rules.specs.pz_classes_rules.Numbers.{class}
use Rattle.pz_env_rules.specs.pz_classes_rules.Members.{ports, spelled}
use Rattle.pz_env_rules.specs.pz_classes_rules.SizeRules.{systems, system_size}
use Rattle.pz_env_rules.specs.pz_bind_rules.Nest.{class_of, instances_at, channels_at}
use Rattle.pz_env_rules.specs.pz_bind_rules.Connections.{names_inner}
use Rattle.pz_env_rules.specs.pz_env_script.declared.entry.Entry.{Entry}
use Rattle.pz_env_tree.specs.Names.{class_name, instance_name}
use Rattle.pz_env_tree.specs.Refusals.{full_processes, most_channels}

module _ (m : ModelTree) where
  abbrev pub is_named_so : Bool
  is_named_so = list_any (λ x. bytes_eq x.name.name instance_name) (instances_at m [])

  abbrev pub is_crowded : Bool
  is_crowded = list_any (λ s. nat_le full_processes (system_size m s).processes) (systems m)

  abbrev pub is_wide : Bool
  is_wide = list_any (λ s. nat_lt most_channels (system_size m s).channels) (systems m)

  abbrev pub is_full : Bool
  is_full = is_some (class m class_name) || (is_named_so || (is_crowded || is_wide))

  abbrev pub has_port : Entry → Instance → Bool
  has_port e x = list_any (λ p. bytes_eq p e.port) (spelled (ports m (class_of m x)))

  abbrev pub is_port : Entry → Bool
  is_port e = list_any (λ x. bytes_eq x.name.name e.instance && has_port e x) (instances_at m [])

  abbrev pub is_taken : Entry → Bool
  is_taken e = list_any (names_inner e.instance e.port) (channels_at m [])

  abbrev pub is_bad : Entry → Bool
  is_bad e = not (is_port e) || is_taken e

  -- the first bad one of these entries, of which the first has line n
  abbrev pub first_bad : ℕ → List Entry → Option ℕ
  first_bad n [] = None
  first_bad n (e ∷ es) = if is_bad e then Some n else first_bad (suc n) es

  abbrev pub refused : List Entry → Option ℕ
  refused script = if is_full then Some 1 else first_bad 1 script
