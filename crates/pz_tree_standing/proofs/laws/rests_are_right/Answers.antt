use Rattle.pz_tree_standing.proofs.Resting.{rests_are_right}
use Rattle.pz_tree_standing.proofs.laws.rests_are_right.Goals as goal

pub returns : goal.returns
returns c = record {
  law = rests_are_right;
}
