use Rattle.pz_nodes.specs.Arena.{find}
use Rattle.pz_tree_nodes.proofs.Going.{WayRule}
use Rattle.pz_tree_nodes.proofs.kth.kth_internal.Given as goal

abbrev pub invariant-loop-level : goal.invariant-loop-level
invariant-loop-level g l = WayRule (find l.nodes) l.fn.root.key l.fn.root.frame.0 l.fn.root.clock l.levels l.k l.place l.spot l.left l._level
