-- A process of the code, as it stands in a configuration, and the wires of its ports.
use Rattle.std.specs.Prelude.{◌≡◌, ◌<◌, ℕ, length, Option, Some, slice_get}
use Rattle.pz_classes_code.specs.pz_syntax.Classes.{ModelTree}
use Rattle.pz_rules.specs.pz_classes_rules.Soundness.{IsSound}
use Rattle.pz_rules.specs.pz_classes_rules.Members.{ports}
use Rattle.pz_bind_levels.specs.Places.{Address}
use Rattle.pz_rules.specs.pz_bind_rules.Nest.{processes, class_at}
use Rattle.pz_bind.specs.devices.Nets.{IsNet}
use Rattle.pz_bind.specs.declared.net.Net.{Net}
use Rattle.pz_rules.specs.Ports.{HasWires}
use Rattle.pz_rules.specs.Configurations.{Config}
use Rattle.pz_rules.specs.Fitting.{IsFit}
use Rattle.pz_term_processes.specs.declared.process.Process.{Process}
use Rattle.pz_term_processes.specs.Standing.{setting_of, process_view}
use Rattle.pz_term_processes.specs.pz_part_queries.declared.standpoint.Standpoint.{Standpoint}
use Rattle.pz_term_processes.specs.pz_part_queries.Standpoints.{Knows}

-- Process i of the model of this net stands at a place of the system, and the wires are known.
pub record Wired (m : ModelTree) (net : Net) (i : ℕ) : Type 0 where
  pub of_model : ∥ IsNet m net ∥₁
  pub place : Address
  pub is_process : slice_get (processes m) i ≡ Some place
  pub wires : HasWires m

-- its class has the port of this number
abbrev pub HasPort : {m : ModelTree} {net : Net} {i : ℕ} → Wired m net i → ℕ → Type 0
HasPort {m} {net} {i} wired port = port < length (ports m (class_at m wired.place))

-- the wire of this port
abbrev pub wire_at : {m : ModelTree} {net : Net} {i : ℕ} → Wired m net i → ℕ → Option ℕ
wire_at {m} {net} {i} wired port = wired.wires.wire i port

-- The process stands in the configuration, under the number that the standpoint has, and what is left
-- of each process fits its class.
pub record IsSeen (m : ModelTree) (c : Config) (net : Net) (here : Standpoint) (process : Process) : Type 0 where
  pub sound : IsSound m
  pub known : Knows m here
  pub of_model : ∥ IsNet m net ∥₁
  pub fit : ∥ IsFit (setting_of m here.limits) c ∥₁
  pub clock : here.clock ≡ c.clock
  pub place : Address
  pub is_process : slice_get (processes m) here.process ≡ Some place
  pub is_here : slice_get c.processes here.process ≡ Some (process_view process)
