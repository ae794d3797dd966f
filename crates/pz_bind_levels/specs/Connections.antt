-- Which ends reach which channels, and which ends are connected.
use Rattle.std.specs.Prelude.{◌≡◌, ◌↔◌, ℕ, ◌∷◌, List, None, Some, slice_get}
use Rattle.pz_bind_levels.specs.Layouts.{Layout}
use Rattle.pz_bind_levels.specs.Places.{Address, layout_at}
use Rattle.pz_bind_levels.specs.Wires.{Channel, channel, joined, wires}

-- the port of this number of what stands at this place
pub record PortEnd : Type 0 where
  pub place : Address
  pub port : ℕ

module _ (layouts : List Layout) (system : ℕ) where
  -- an end is in this channel of its level
  pub data IsIn : PortEnd → Channel → Type 0 where
    is_in : (i port k : ℕ) (up : Address) → (layout_at layouts system up).linked i port ≡ Some k → IsIn (record { place = i ∷ up; port = port }) (channel up k)

  -- from a channel on outwards
  pub data Leads : Channel → Channel → Type 0 where
    itself : (c : Channel) → Leads c c
    outwards : (i k j : ℕ) (up : Address) (c : Channel) → joined layouts system (i ∷ up) k ≡ Some j → Leads (channel up j) c → Leads (channel (i ∷ up) k) c

  -- the channel that the end is in, and those that it leads to
  pub record Reaches (e : PortEnd) (c : Channel) : Type 0 where
    pub first : Channel
    pub starts : IsIn e first
    pub leads : Leads first c

  -- some channel is reached by both
  pub record Connected (e f : PortEnd) : Type 0 where
    pub met : Channel
    pub one : Reaches e met
    pub other : Reaches f met

  -- this is the number of the end's wire: of the last channel that it reaches
  pub record HasWire (e : PortEnd) (w : ℕ) : Type 0 where
    pub last : Channel
    pub reached : Reaches e last
    pub ends : joined layouts system last.place last.number ≡ None
    pub there : slice_get (wires layouts system) w ≡ Some last

  -- the end is in no channel
  abbrev pub IsInNone : PortEnd → Type 0
  IsInNone e = (c : Channel) → IsIn e c → ⊥

-- two ends that are in channels have one wire just where they are connected
abbrev pub EndsShareWires : List Layout → ℕ → Type 0
EndsShareWires layouts system = (e f : PortEnd) (v w : ℕ) → HasWire layouts system e v → HasWire layouts system f w → (v ≡ w) ↔ Connected layouts system e f
