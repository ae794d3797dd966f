-- The wires of the ports of processes.
use Rattle.std.specs.Prelude.{◌≡◌, ℕ, List, Option, Some, slice_get}
use Rattle.pz_bind_rules.specs.pz_syntax.Classes.{ModelTree}
use Rattle.pz_bind_rules.specs.pz_classes_rules.Members.{ports, spelled}
use Rattle.pz_bind_levels.specs.Places.{Address}
use Rattle.pz_bind_rules.specs.Nest.{processes, class_at}
use Rattle.pz_bind_rules.specs.Connections.{end}
use Rattle.pz_bind_rules.specs.Wires.{HasWire}

-- the port of this number of process i has this wire
pub record IsWire (m : ModelTree) (i port wire : ℕ) : Type 0 where
  pub place : Address
  pub is_process : slice_get (processes m) i ≡ Some place
  pub name : List ℕ
  pub named : slice_get (spelled (ports m (class_at m place))) port ≡ Some name
  pub has_wire : HasWire m (end place name) wire

-- It is known of each port of each process which wire it has, and where it has none.
pub record HasWires (m : ModelTree) : Type 0 where
  pub wire : ℕ → ℕ → Option ℕ
  pub has : (i port w : ℕ) → wire i port ≡ Some w → IsWire m i port w
  pub only : (i port w : ℕ) → IsWire m i port w → wire i port ≡ Some w
