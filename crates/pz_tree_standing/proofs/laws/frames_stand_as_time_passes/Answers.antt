use Rattle.pz_tree_standing.proofs.Elapsing.{as_time_passes}
use Rattle.pz_tree_standing.proofs.laws.frames_stand_as_time_passes.Goals as goal

pub returns : goal.returns
returns c = record { law = as_time_passes }
