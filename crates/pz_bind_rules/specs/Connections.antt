-- Which channels an end reaches, and which ends are connected.
use Rattle.std.specs.Prelude.{◌≡◌, ℕ, Bool, false, ◌&&◌, List, ◌∷◌, Some, IsTrue, slice_get}
use Rattle.std.specs.List.{list_any}
use Rattle.std.specs.Str.{bytes_eq}
use Rattle.pz_classes_rules.specs.pz_syntax.declared.clusters.Instance.{Instance}
use Rattle.pz_classes_rules.specs.pz_syntax.declared.clusters.Channel.{Channel as Written}
use Rattle.pz_classes_rules.specs.pz_syntax.declared.clusters.ChannelEnd.{ChannelEnd}
use Rattle.pz_classes_rules.specs.pz_syntax.declared.clusters.ChannelEnd.TheVariants.{Inner, Outer}
use Rattle.pz_classes_rules.specs.pz_syntax.Classes.{ModelTree}
use Rattle.pz_bind_levels.specs.Places.{Address}
use Rattle.pz_bind_levels.specs.Wires.{Channel, channel}
use Rattle.pz_bind_rules.specs.Nest.{instance_at, channels_at}

-- the port of this name of what stands at this place
pub record PortEnd : Type 0 where
  pub place : Address
  pub port : List ℕ

abbrev pub end : Address → List ℕ → PortEnd
end place port = record { place = place; port = port }

abbrev pub is_inner : List ℕ → List ℕ → ChannelEnd → Bool
is_inner instance port (Inner i p) = bytes_eq instance i.name && bytes_eq port p.name
is_inner instance port (Outer p) = false

abbrev pub is_outer : List ℕ → ChannelEnd → Bool
is_outer port (Inner i p) = false
is_outer port (Outer p) = bytes_eq port p.name

-- the channel names this port of this instance
abbrev pub names_inner : List ℕ → List ℕ → Written → Bool
names_inner instance port h = list_any (is_inner instance port) h.ends

-- the channel names this port of its own cluster
abbrev pub names_outer : List ℕ → Written → Bool
names_outer port h = list_any (is_outer port) h.ends

module _ (m : ModelTree) where
  -- the channel of its level names the end
  pub data IsIn : PortEnd → Channel → Type 0 where
    is_in : (up : Address) (i k : ℕ) (x : Instance) (h : Written) (port : List ℕ)
        → instance_at m up i ≡ Some x → slice_get (channels_at m up) k ≡ Some h → IsTrue (names_inner x.name.name port h)
        → IsIn (end (i ∷ up) port) (channel up k)

  -- The first channel names a port of its cluster, and the second, one level up, names that port of
  -- the cluster's instance.
  pub data Joined : Channel → Channel → Type 0 where
    joined : (place : Address) (k : ℕ) (h : Written) (port : List ℕ) (c : Channel)
        → slice_get (channels_at m place) k ≡ Some h → IsTrue (names_outer port h) → IsIn (end place port) c
        → Joined (channel place k) c

  -- from a channel on outwards
  pub data Leads : Channel → Channel → Type 0 where
    itself : (c : Channel) → Leads c c
    outwards : (c d e : Channel) → Joined c d → Leads d e → Leads c e

  -- the channel that the end is in, and those that it leads to
  pub record Reaches (e : PortEnd) (c : Channel) : Type 0 where
    pub first : Channel
    pub starts : IsIn e first
    pub leads : Leads first c

  -- some channel is reached by both
  pub record Connected (e f : PortEnd) : Type 0 where
    pub met : Channel
    pub one : Reaches e met
    pub other : Reaches f met

  -- the end is in no channel
  abbrev pub IsInNone : PortEnd → Type 0
  IsInNone e = (c : Channel) → IsIn e c → ⊥
