use Rattle.std.proofs.Common.{◌≤◌, ◌+◌, ◌*◌}
use Rattle.pz_nodes.specs.Arena.{find, live}
use Rattle.pz_nodes_shapes.specs.Dropping.{DropsOn}
use Rattle.pz_nodes_shapes.proofs.dropping.+dropping.Given as goal

abbrev pub decreases-drop_part : goal.decreases-drop_part
decreases-drop_part g l = 2 * live l.nodes.now

abbrev pub decreases-drop_kids : goal.decreases-drop_kids
decreases-drop_kids g l = 2 * live l.nodes.now + 1

abbrev pub invariant-drop_kids-loop-kid : goal.invariant-drop_kids-loop-kid
invariant-drop_kids-loop-kid g l = record {
  fewer : live l.nodes ≤ live l.initial.nodes;
  on : DropsOn (find l.initial.nodes) (find l.nodes) l.kids l.kid-index l.initial.steps l.steps;
}
