use Rattle.std.proofs.Common.{◌≡◌, ◌+◌, take}
use Rattle.pz_nodes.specs.Arena.{find}
use Rattle.pz_tree_nodes.specs.View.{head_view}
use Rattle.pz_tree_nodes.specs.devices.Counts.{internal, counts}
use Rattle.pz_tree_nodes.proofs.kth.seek.Given as goal

abbrev pub invariant-loop-number : goal.invariant-loop-number
invariant-loop-number g l = l.k ≡ l.left + counts internal (find l.nodes) (head_view l.head) 0 (take l.number l.kids)
