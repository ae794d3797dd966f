use Rattle.std.proofs.Common.{◌≤◌, ◌+◌, ◌*◌}
use Rattle.pz_nodes.specs.Arena.{find, live}
use Rattle.pz_tree_nodes.specs.Dropping.{numbers}
use Rattle.pz_tree_nodes.specs.devices.Frames.{DropsOn}
use Rattle.pz_tree_nodes.proofs.dropping.+dropping.Given as goal

abbrev pub decreases-drop_part : goal.decreases-drop_part
decreases-drop_part g l = 2 * live l.nodes.now

abbrev pub decreases-drop_parts : goal.decreases-drop_parts
decreases-drop_parts g l = 2 * live l.nodes.now + 1

abbrev pub invariant-drop_parts-loop-key : goal.invariant-drop_parts-loop-key
invariant-drop_parts-loop-key g l = record {
  fewer : live l.nodes ≤ live l.initial.nodes;
  on : DropsOn (find l.initial.nodes) (find l.nodes) l.keys l.key-index (numbers l.initial.frames.items) (numbers l.frames.items) l.initial.steps l.steps;
}
