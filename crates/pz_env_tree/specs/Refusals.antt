-- Which scripts cannot drive a system, and from which line on.
use Rattle.std.specs.Prelude.{◌≡◌, ◌≤◌, ◌<◌, ◌+◌, ℕ, true, List, [], Any, Contains, Some, slice_get}
use Rattle.pz_env_rules.specs.pz_syntax.Classes.{ModelTree}
use Rattle.pz_env_rules.specs.pz_classes_rules.Numbers.{class}
use Rattle.pz_env_rules.specs.pz_classes_rules.Members.{ports, spelled}
use Rattle.pz_env_rules.specs.pz_classes_rules.SizeRules.{systems, system_size}
use Rattle.pz_env_rules.specs.pz_bind_rules.Nest.{class_of, instances_at, channels_at}
use Rattle.pz_env_rules.specs.pz_bind_rules.Connections.{names_inner}
use Rattle.pz_env_rules.specs.pz_env_script.declared.entry.Entry.{Entry}
use Rattle.pz_env_tree.specs.Names.{class_name, instance_name}

-- where there are as many processes, or more channels, an environment does not fit
abbrev pub full_processes : ℕ
full_processes = 10000

abbrev pub most_channels : ℕ
most_channels = 900000

module _ (m : ModelTree) where
  -- There is no room for an environment: one of its names is taken, or the system is too large. A
  -- cluster may have an instance of its name.
  pub data IsFull : Type 0 where
    has_class : (n : ℕ) → class m class_name ≡ Some n → IsFull
    has_instance : Any (λ x. x.name.name ≡ instance_name) (instances_at m []) → IsFull
    has_processes : Any (λ s. full_processes ≤ (system_size m s).processes) (systems m) → IsFull
    has_channels : Any (λ s. most_channels < (system_size m s).channels) (systems m) → IsFull

  -- it names a port of an instance of the system
  abbrev pub IsPort : Entry → Type 0
  IsPort e = Any (λ x. (x.name.name ≡ e.instance) × Contains (spelled (ports m (class_of m x))) e.port) (instances_at m [])

  -- a channel of the system names its end
  abbrev pub IsTaken : Entry → Type 0
  IsTaken e = Any (λ h. names_inner e.instance e.port h ≡ true) (channels_at m [])

  pub data IsBadEntry (e : Entry) : Type 0 where
    no_port : ¬ IsPort e → IsBadEntry e
    taken : IsTaken e → IsBadEntry e

  -- The script cannot drive the system, and this is the first line that is to blame, counted from 1;
  -- that is line 1 where there is no room for an environment.
  pub data IsFirstRefused (script : List Entry) : ℕ → Type 0 where
    no_room : IsFull → IsFirstRefused script 1
    bad_entry : (i : ℕ) (e : Entry) → ¬ IsFull → slice_get script i ≡ Some e → IsBadEntry e
        → ((k : ℕ) (before : Entry) → k < i → slice_get script k ≡ Some before → ¬ IsBadEntry before) → IsFirstRefused script (1 + i)
