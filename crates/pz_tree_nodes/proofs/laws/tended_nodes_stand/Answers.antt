use Rattle.pz_tree_nodes.proofs.Plants.{tended_stand}
use Rattle.pz_tree_nodes.proofs.laws.tended_nodes_stand.Goals as goal

pub returns : goal.returns
returns c = record {
  law = tended_stand;
}
