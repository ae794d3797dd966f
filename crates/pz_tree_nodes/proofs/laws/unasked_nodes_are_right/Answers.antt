use Rattle.pz_tree_nodes.proofs.Marks.{unasked_right, unasked_flagged}
use Rattle.pz_tree_nodes.proofs.laws.unasked_nodes_are_right.Goals as goal

pub returns : goal.returns
returns c = record {
  law = unasked_right c.rests_are_right.ensures.law;
  flags = unasked_flagged;
}
