use Rattle.pz_tree_standing.proofs.Unasked.{unasked_is_steady}
use Rattle.pz_tree_standing.proofs.laws.unasked_is_steady.Goals as goal

pub returns : goal.returns
returns c = record { law = unasked_is_steady }
