-- What an expansion says of the processes and the wires of a system.
use Rattle.std.specs.Prelude.{◌≡◌, ◌<◌, ℕ, List, ◌∷◌, length, Some, slice_get}
use Rattle.pz_bind_rules.specs.pz_syntax.Classes.{ModelTree}
use Rattle.pz_bind_levels.specs.declared.expansion.Process.{Process}
use Rattle.pz_bind_levels.specs.declared.expansion.Wire.{Wire}
use Rattle.pz_bind_levels.specs.Places.{Address}
use Rattle.pz_bind_levels.specs.Wires.{Channel}
use Rattle.pz_bind_rules.specs.Nest.{class_at, instances_at, levels, processes}
use Rattle.pz_bind_rules.specs.Wires.{wires}

-- a process of the expansion stands at this place
pub record IsProcessAt (m : ModelTree) (p : Process) (place : Address) : Type 0 where
  pub up : Address
  pub level : slice_get (levels m) p.standing.level ≡ Some up
  pub place_is : place ≡ p.standing.part ∷ up
  pub part : p.standing.part < length (instances_at m up)
  pub class : p.class ≡ class_at m place

pub record AreProcesses (m : ModelTree) (ps : List Process) : Type 0 where
  pub counted : length ps ≡ length (processes m)
  pub each : (n : ℕ) (p : Process) (place : Address) → slice_get ps n ≡ Some p → slice_get (processes m) n ≡ Some place → IsProcessAt m p place

-- a wire of the expansion is this channel
pub record IsWireAt (m : ModelTree) (w : Wire) (c : Channel) : Type 0 where
  pub level : slice_get (levels m) w.level ≡ Some c.place
  pub number : w.channel ≡ c.number

pub record AreWires (m : ModelTree) (ws : List Wire) : Type 0 where
  pub counted : length ws ≡ length (wires m)
  pub each : (n : ℕ) (w : Wire) (c : Channel) → slice_get ws n ≡ Some w → slice_get (wires m) n ≡ Some c → IsWireAt m w c
