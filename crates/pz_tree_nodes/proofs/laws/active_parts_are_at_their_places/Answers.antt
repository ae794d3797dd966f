use Rattle.pz_tree_nodes.proofs.Ways.{active_at}
use Rattle.pz_tree_nodes.proofs.laws.active_parts_are_at_their_places.Goals as goal

pub returns : goal.returns
returns c = record {
  law = active_at;
}
