-- What is kept of the net of a model.
use Rattle.std.specs.Prelude.{◌≡◌, map}
use Rattle.pz_bind_rules.specs.pz_syntax.Classes.{ModelTree}
use Rattle.pz_bind_rules.specs.pz_classes_rules.ClassNames.{class_id}
use Rattle.pz_bind_rules.specs.pz_classes_rules.SoundSystem.{SystemFits}
use Rattle.pz_bind_rules.specs.pz_classes_rules.SoundClasses.{ClassesFit}
use Rattle.pz_bind_levels.specs.Places.{Address}
use Rattle.pz_bind_levels.specs.devices.Expanded.{IsExpansion}
use Rattle.pz_bind_levels.specs.devices.Walking.{layouts_of}
use Rattle.pz_bind_rules.specs.Nest.{system_class, class_at, processes}
use Rattle.pz_bind_rules.specs.Names.{path, wire_name}
use Rattle.pz_bind_rules.specs.Values.{values_at}
use Rattle.pz_bind_rules.specs.Wires.{wires}
use Rattle.pz_bind_rules.specs.devices.Layouts.{layouts}
use Rattle.pz_bind.specs.declared.net.Node.{Node}
use Rattle.pz_bind.specs.declared.net.Net.{Net}

-- the process at this place
abbrev pub node_at : ModelTree → Address → Node
node_at m place = record { path = path m place; class = class_id (class_at m place); values = values_at m place }

-- This is the net of the model, which is sound: its processes and the names of its wires, each in
-- order, and the levels by which wires are found.
pub record IsNet (m : ModelTree) (net : Net) : Type 0 where
  pub system_fits : SystemFits m
  pub classes_fit : ClassesFit m
  pub nodes : net.nodes ≡ map (node_at m) (processes m)
  pub wire_names : net.wire_names ≡ map (wire_name m) (wires m)
  pub plans : layouts_of net.plans ≡ layouts m
  pub expansion : IsExpansion (layouts m) (system_class m) net.expansion
