use Rattle.std.proofs.Common.{◌≤◌, ◌+◌, ◌*◌, drop}
use Rattle.pz_nodes.specs.Arena.{find}
use Rattle.pz_nodes_shapes.specs.Seen.{seen}
use Rattle.pz_tree_nodes.specs.View.{what_view}
use Rattle.pz_tree_nodes.proofs.Ways.{WayRule}
use Rattle.pz_tree_nodes.proofs.parts.part_at.Given as goal

abbrev pub invariant-loop-number : goal.invariant-loop-number
invariant-loop-number g l = record {
  way : WayRule (seen what_view (find l.nodes)) l.fn.root.key l.fn.root.frame.0 l.fn.root.clock l.place l.spot.key l.spot.frame.0 l.spot.clock (drop l.number-index l.place);
  ticks : l.steps ≤ l.initial.steps + 2 * l.number-index;
}
