use Rattle.pz_tree_standing.proofs.Woken.{unwoken_is_steady}
use Rattle.pz_tree_standing.proofs.laws.unwoken_is_steady.Goals as goal

pub returns : goal.returns
returns c = record { law = unwoken_is_steady }
