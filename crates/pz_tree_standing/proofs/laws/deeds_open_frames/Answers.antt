use Rattle.pz_tree_standing.proofs.Deeds.{performed, handed, taken}
use Rattle.pz_tree_standing.proofs.laws.deeds_open_frames.Goals as goal

pub returns : goal.returns
returns c = record { performed = performed; handed = handed; taken = taken }
