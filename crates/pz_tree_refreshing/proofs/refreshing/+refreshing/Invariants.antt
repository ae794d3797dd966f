use Rattle.std.proofs.Common.{◌≡◌, ◌+◌, ◌*◌, ℕ}
use Rattle.pz_classes_code.specs.pz_syntax.Classes.{ModelTree}
use Rattle.pz_nodes.specs.Arena.{find}
use Rattle.pz_part_queries.specs.Standpoints.{Knows, seen_from}
use Rattle.pz_tree_nodes.specs.pz_tree_standing.Heads.{inner_frame}
use Rattle.pz_tree_nodes.specs.View.{head_view}
use Rattle.pz_tree_refreshing.specs.devices.Levels.{RefreshesOn}
use Rattle.pz_tree_refreshing.proofs.refreshing.+refreshing.Given as goal

abbrev pub invariant-refresh_kids-loop-number : goal.invariant-refresh_kids-loop-number
invariant-refresh_kids-loop-number g l = record {
  on : (m : ModelTree) (class : ℕ) → Knows m l.here → RefreshesOn (seen_from m l.here class l.initial.state.held) (find l.initial.nodes) (find l.nodes)
      (inner_frame (head_view l.head) l.outer.frame.0) (head_view l.head) l.outer.clock l.fuel l.kids l.number l.all l.initial.steps l.steps;
  state : l.state ≡ l.initial.state;
}

-- one node below another is one less; at one node, the child comes before the node, and the children before the child
abbrev pub decreases-refresh_node : goal.decreases-refresh_node
decreases-refresh_node g l = 4 * l.fuel

abbrev pub decreases-refresh_at : goal.decreases-refresh_at
decreases-refresh_at g l = 4 * l.fuel + 1

abbrev pub decreases-refresh_kid : goal.decreases-refresh_kid
decreases-refresh_kid g l = 4 * l.fuel + 2

abbrev pub decreases-refresh_kids : goal.decreases-refresh_kids
decreases-refresh_kids g l = 4 * l.fuel + 3
