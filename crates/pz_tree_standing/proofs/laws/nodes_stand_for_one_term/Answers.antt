use Rattle.pz_tree_standing.proofs.Meaning.{one_term}
use Rattle.pz_tree_standing.proofs.laws.nodes_stand_for_one_term.Goals as goal

pub returns : goal.returns
returns c = record { law = one_term }
