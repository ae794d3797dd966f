-- Wires, and the ends that have them.
use Rattle.std.specs.Prelude.{◌≡◌, ◌↔◌, ℕ, suc, Bool, false, List, [], ◌∷◌, ◌++◌, Some, slice_get, if◌then◌else◌}
use Rattle.std.specs.List.{list_any, flat_map}
use Rattle.pz_classes_rules.specs.pz_syntax.declared.clusters.Channel.{Channel as Written}
use Rattle.pz_classes_rules.specs.pz_syntax.declared.clusters.ChannelEnd.{ChannelEnd}
use Rattle.pz_classes_rules.specs.pz_syntax.declared.clusters.ChannelEnd.TheVariants.{Inner, Outer}
use Rattle.pz_classes_rules.specs.pz_syntax.Classes.{ModelTree}
use Rattle.pz_classes_rules.specs.Soundness.{IsSound}
use Rattle.pz_bind_levels.specs.Places.{Address}
use Rattle.pz_bind_levels.specs.Wires.{Channel, channel}
use Rattle.pz_bind_rules.specs.Nest.{channels_at, levels}
use Rattle.pz_bind_rules.specs.Names.{name_at}
use Rattle.pz_bind_rules.specs.Connections.{PortEnd, names_inner, Joined, Reaches, Connected}

module _ (m : ModelTree) where
  -- the end is a port of instance i of the level at this place, and a channel there names that port too
  abbrev pub is_carried_on : Address → ℕ → ChannelEnd → Bool
  is_carried_on up i (Inner x port) = false
  is_carried_on up i (Outer port) = list_any (names_inner (name_at m up i) port.name) (channels_at m up)

  -- the channel is joined with one outside the level at this place; nothing is outside the system
  abbrev pub is_joined : Address → Written → Bool
  is_joined [] h = false
  is_joined (i ∷ up) h = list_any (is_carried_on up i) h.ends

  -- of the channels of a level, from number k on, those that are joined no further
  abbrev pub ending : Address → ℕ → List Written → List Channel
  ending place k [] = []
  ending place k (h ∷ hs) = (if is_joined place h then [] else channel place k ∷ []) ++ ending place (suc k) hs

  abbrev pub wires_at : Address → List Channel
  wires_at place = ending place 0 (channels_at m place)

  -- The wires in order: a wire is a channel that is joined no further. First come those of the system,
  -- then those of each cluster, which come before those of the clusters in it.
  abbrev pub wires : List Channel
  wires = flat_map wires_at (levels m)

  -- this is the number of the end's wire: of the last channel that it reaches
  pub record HasWire (e : PortEnd) (w : ℕ) : Type 0 where
    pub last : Channel
    pub reached : Reaches m e last
    pub ends : (c : Channel) → Joined m last c → ⊥
    pub there : slice_get wires w ≡ Some last

-- in a checked model two ends that are in channels have one wire just where they are connected
abbrev pub EndsShareWires : ModelTree → Type 0
EndsShareWires m = IsSound m → (e f : PortEnd) (v w : ℕ) → HasWire m e v → HasWire m f w → (v ≡ w) ↔ Connected m e f
