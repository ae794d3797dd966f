-- The levels of a model by numbers, as they are handed on to be expanded.
use Rattle.std.specs.Prelude.{ℕ, suc, Bool, false, ◌&&◌, nat_eq, List, [], ◌∷◌, ◌++◌, map, Option, Some, None, slice_get, if◌then◌else◌}
use Rattle.std.specs.Option.{option_map_or, option_and_then, option_or}
use Rattle.std.specs.List.{flat_map}
use Rattle.pz_classes_rules.specs.pz_syntax.declared.clusters.Instance.{Instance}
use Rattle.pz_classes_rules.specs.pz_syntax.declared.clusters.Channel.{Channel as Written}
use Rattle.pz_classes_rules.specs.pz_syntax.declared.clusters.ChannelEnd.{ChannelEnd}
use Rattle.pz_classes_rules.specs.pz_syntax.declared.clusters.ChannelEnd.TheVariants.{Inner, Outer}
use Rattle.pz_classes_rules.specs.pz_syntax.Classes.{DeclTree, ModelTree}
use Rattle.pz_classes_rules.specs.Numbers.{declaration}
use Rattle.pz_classes_rules.specs.Kinds.{is_cluster}
use Rattle.pz_classes_rules.specs.Members.{ports, spelled}
use Rattle.pz_classes_rules.specs.pz_classes_code.Places.{place_in}
use Rattle.pz_bind_levels.specs.declared.plan.LevelPart.{LevelPart}
use Rattle.pz_bind_levels.specs.Layouts.{Layout}
use Rattle.pz_bind_rules.specs.Nest.{instances_in, channels_in, class_of}

-- a port of an instance is in a channel
pub record Link : Type 0 where
  pub part : ℕ
  pub port : ℕ
  pub channel : ℕ

abbrev pub link : ℕ → ℕ → ℕ → Link
link part port channel = record { part = part; port = port; channel = channel }

-- the channel of the first of these that is of this port
abbrev pub linked_by : List Link → ℕ → ℕ → Option ℕ
linked_by [] i p = None
linked_by (l ∷ ls) i p = option_or (if nat_eq i l.part && nat_eq p l.port then Some l.channel else None) (linked_by ls i p)

-- the number of the first of these instances that has the name
abbrev pub instance_number : List Instance → List ℕ → Option ℕ
instance_number xs name = place_in (map (λ x. x.name.name) xs) name

module _ (m : ModelTree) where
  abbrev pub is_cluster_class : ℕ → Bool
  is_cluster_class c = option_map_or is_cluster (declaration m c) false

  abbrev pub part_of : Instance → LevelPart
  part_of x = record { class = class_of m x; is_level = is_cluster_class (class_of m x) }

  abbrev pub port_number : ℕ → List ℕ → Option ℕ
  port_number c name = place_in (spelled (ports m c)) name

  -- the number of the port of its own class c that a channel with these ends has
  abbrev pub outer_from : ℕ → List ChannelEnd → Option ℕ
  outer_from c [] = None
  outer_from c (Inner x p ∷ es) = outer_from c es
  outer_from c (Outer p ∷ es) = port_number c p.name

  -- the number of this port of the instance of this number
  abbrev pub port_of : List Instance → ℕ → List ℕ → Option ℕ
  port_of xs i name = option_and_then (λ x. port_number (class_of m x) name) (slice_get xs i)

  abbrev pub link_at : List Instance → ℕ → List ℕ → ℕ → List Link
  link_at xs k name i = option_map_or (λ p. link i p k ∷ []) (port_of xs i name) []

  -- what an end of channel k links, where these instances stand
  abbrev pub link_of : List Instance → ℕ → ChannelEnd → List Link
  link_of xs k (Inner x p) = option_map_or (link_at xs k p.name) (instance_number xs x.name) []
  link_of xs k (Outer p) = []

  -- the links of these channels, of which the first has number k
  abbrev pub links_from : List Instance → ℕ → List Written → List Link
  links_from xs k [] = []
  links_from xs k (h ∷ hs) = flat_map (link_of xs k) h.ends ++ links_from xs (suc k) hs

  abbrev pub class_layout : ℕ → Layout
  class_layout c = record {
    parts = map part_of (instances_in m c);
    outer = map (λ (h : Written). outer_from c h.ends) (channels_in m c);
    linked = linked_by (links_from (instances_in m c) 0 (channels_in m c));
  }

  -- those of these classes, of which the first has number c
  abbrev pub layouts_from : ℕ → List DeclTree → List Layout
  layouts_from c [] = []
  layouts_from c (d ∷ ds) = class_layout c ∷ layouts_from (suc c) ds

  -- what stands in a level of each class, by the classes' numbers
  abbrev pub layouts : List Layout
  layouts = class_layout 0 ∷ layouts_from 1 m.decls
