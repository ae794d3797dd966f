use Rattle.pz_tree_standing.proofs.FrameCounts.{residual_times, gains_none}
use Rattle.pz_tree_standing.proofs.laws.frames_are_counted.Goals as goal

pub returns : goal.returns
returns c = record {
  law = residual_times;
  one = λ h n f t place x first. gains_none h first n f t place x;
}
