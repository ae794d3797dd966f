use Rattle.pz_tree_standing.proofs.Depths.{no_deeper}
use Rattle.pz_tree_standing.proofs.laws.nodes_are_no_deeper.Goals as goal

pub returns : goal.returns
returns c = record { law = no_deeper }
