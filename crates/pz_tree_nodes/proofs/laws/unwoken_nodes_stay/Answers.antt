use Rattle.pz_tree_nodes.proofs.Marks.{unwoken_calm, unwoken_steady}
use Rattle.pz_tree_nodes.proofs.laws.unwoken_nodes_stay.Goals as goal

pub returns : goal.returns
returns c = record {
  calm = unwoken_calm c.unwoken_nodes_stay.ensures.calm;
  steady = unwoken_steady c.unwoken_nodes_stay.ensures.steady;
}
