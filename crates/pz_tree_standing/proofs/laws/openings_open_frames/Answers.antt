use Rattle.pz_tree_standing.proofs.Deeds.{around_opens}
use Rattle.pz_tree_standing.proofs.laws.openings_open_frames.Goals as goal

pub returns : goal.returns
returns c = record { law = λ h n f t place x. around_opens h n f t place x }
