use Rattle.std.proofs.Common.{◌≡◌, ◌+◌, ◌*◌, ℕ}
use Rattle.pz_classes_code.specs.pz_syntax.Classes.{ModelTree}
use Rattle.pz_nodes.specs.Arena.{find}
use Rattle.pz_tree_refreshing.specs.pz_part_queries.Standpoints.{Knows, seen_from}
use Rattle.pz_tree_refreshing.specs.pz_tree_standing.Heads.{inner_frame}
use Rattle.pz_tree_refreshing.specs.pz_tree_nodes.View.{head_view}
use Rattle.pz_tree_elapsing.specs.devices.Levels.{ElapsesOn}
use Rattle.pz_tree_elapsing.proofs.elapsing.+elapsing.Given as goal

abbrev pub invariant-elapse_kids-loop-number : goal.invariant-elapse_kids-loop-number
invariant-elapse_kids-loop-number g l = record {
  on : (m : ModelTree) (class : ℕ) → Knows m l.here → ElapsesOn (seen_from m l.here class l.initial.state.held) (find l.initial.nodes) (find l.nodes)
      (inner_frame (head_view l.head) l.outer.frame.0) (head_view l.head) l.outer.clock l.fuel l.kids l.number l.all l.initial.steps l.steps;
  state : l.state ≡ l.initial.state;
}

-- one node below another is one less; at one node, the child comes before the node, and the children before the child
abbrev pub decreases-elapse_node : goal.decreases-elapse_node
decreases-elapse_node g l = 4 * l.fuel

abbrev pub decreases-elapse_at : goal.decreases-elapse_at
decreases-elapse_at g l = 4 * l.fuel + 1

abbrev pub decreases-elapse_kid : goal.decreases-elapse_kid
decreases-elapse_kid g l = 4 * l.fuel + 2

abbrev pub decreases-elapse_kids : goal.decreases-elapse_kids
decreases-elapse_kids g l = 4 * l.fuel + 3
