use Rattle.std.proofs.Common.{◌≡◌, ◌+◌, ◌*◌}
use Rattle.pz_nodes.specs.Arena.{find}
use Rattle.pz_tree_nodes.proofs.Listed.{KidsRule}
use Rattle.pz_tree_nodes.proofs.listing.+listing.Given as goal

abbrev pub invariant-list_kids-loop-number : goal.invariant-list_kids-loop-number
invariant-list_kids-loop-number g l = record {
  adds : KidsRule (find l.nodes) l.node l.spot.frame.0 l.spot.clock l.offering l.levels l.initial.place l.number l.initial.found.items l.found.items;
  place : l.place ≡ l.initial.place;
}

-- a node comes before its children, at one level less
abbrev pub decreases-list_part : goal.decreases-list_part
decreases-list_part g l = 2 * l.levels

abbrev pub decreases-list_kids : goal.decreases-list_kids
decreases-list_kids g l = 2 * l.levels + 1
