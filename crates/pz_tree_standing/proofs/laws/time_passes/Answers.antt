use Rattle.pz_tree_standing.proofs.Passing.{time_passes, is_passing, only_passing}
use Rattle.pz_tree_standing.proofs.laws.time_passes.Goals as goal

pub returns : goal.returns
returns c = record {
  passes = λ a d f c1 s. is_passing a d c.passing_is_computed.ensures.some f c1 s;
  only = λ a d f c1 s. only_passing a d c.passing_is_computed.ensures.only f c1 s;
  computed = λ a d f c1 s. time_passes a d f c1 s;
}
