-- What stands where in the system of a model. The system is a level, and so is each cluster in it: in
-- a level stand the instances of its class, and its channels.
use Rattle.std.specs.Prelude.{ℕ, zero, suc, Bool, true, false, List, [], ◌∷◌, ◌++◌, length, Option, slice_get, if◌then◌else◌}
use Rattle.std.specs.Option.{option_map_or, unwrap_or}
use Rattle.std.specs.List.{filter}
use Rattle.pz_classes_rules.specs.pz_syntax.declared.clusters.Instance.{Instance}
use Rattle.pz_classes_rules.specs.pz_syntax.declared.clusters.Channel.{Channel}
use Rattle.pz_classes_rules.specs.pz_syntax.Classes.{DeclTree, data_class, process_class, cluster_class, system, ModelTree}
use Rattle.pz_classes_rules.specs.Numbers.{declaration}
use Rattle.pz_classes_rules.specs.Kinds.{is_process, is_cluster}
use Rattle.pz_classes_rules.specs.Instances.{instances, channels, instance_class}
use Rattle.pz_bind_levels.specs.Places.{Address}

abbrev pub is_system : DeclTree → Bool
is_system (data_class c) = false
is_system (process_class c) = false
is_system (cluster_class c) = false
is_system (system s) = true

-- the number of the first system among these declarations, of which the first has number n; 0 where
-- there is none
abbrev pub first_system : ℕ → List DeclTree → ℕ
first_system n [] = 0
first_system n (d ∷ ds) = if is_system d then n else first_system (suc n) ds

-- what each of these instances gives, of which the first has number i
abbrev pub each_instance : {A : Type 0} → (ℕ → Instance → List A) → ℕ → List Instance → List A
each_instance f i [] = []
each_instance f i (x ∷ xs) = f i x ++ each_instance f (suc i) xs

module _ (m : ModelTree) where
  -- the class of the system
  abbrev pub system_class : ℕ
  system_class = first_system 1 m.decls

  -- the instances in a level of this class
  abbrev pub instances_in : ℕ → List Instance
  instances_in c = option_map_or instances (declaration m c) []

  -- the channels of a level of this class
  abbrev pub channels_in : ℕ → List Channel
  channels_in c = option_map_or channels (declaration m c) []

  -- the class of an instance; in a checked model each has one
  abbrev pub class_of : Instance → ℕ
  class_of x = unwrap_or (instance_class m x.class.name) 0

  -- The class of what stands at this place. A place is the number of an instance in its level, then
  -- that of the level among those around it, and so on outwards; the system stands at [].
  abbrev pub class_at : Address → ℕ
  class_at [] = system_class
  class_at (i ∷ up) = option_map_or class_of (slice_get (instances_in (class_at up)) i) 0

  -- the instances and the channels in the level at this place
  abbrev pub instances_at : Address → List Instance
  instances_at up = instances_in (class_at up)

  abbrev pub channels_at : Address → List Channel
  channels_at up = channels_in (class_at up)

  -- the instance that stands at place i ∷ up
  abbrev pub instance_at : Address → ℕ → Option Instance
  instance_at up i = slice_get (instances_at up) i

  -- an instance, and behind it what stands in it
  abbrev pub with_inside : (ℕ → Address → List Address) → Address → ℕ → Instance → List Address
  with_inside inside up i x = (i ∷ up) ∷ inside (class_of x) (i ∷ up)

  -- what stands in a level of this class at this place, down to so many levels, in the order of the
  -- text: each cluster before what stands in it
  abbrev pub inside : ℕ → ℕ → Address → List Address
  inside zero c up = []
  inside (suc levels) c up = each_instance (with_inside (inside levels) up) 0 (instances_in c)

  -- The system and all that stands in it. Where no class holds itself, fewer levels stand in one
  -- another than there are declarations.
  abbrev pub places : List Address
  places = [] ∷ inside (length m.decls) system_class []

  -- the system or a cluster stands at this place
  abbrev pub is_level : Address → Bool
  is_level [] = true
  is_level (i ∷ up) = option_map_or is_cluster (declaration m (class_at (i ∷ up))) false

  -- a process stands at this place
  abbrev pub is_process_at : Address → Bool
  is_process_at [] = false
  is_process_at (i ∷ up) = option_map_or is_process (declaration m (class_at (i ∷ up))) false

  -- the system and the clusters, in order
  abbrev pub levels : List Address
  levels = filter is_level places

  -- the processes, in order
  abbrev pub processes : List Address
  processes = filter is_process_at places
