use Rattle.pz_tree_standing.proofs.Unwoken.{unstarted_is_calm, due_is_steady}
use Rattle.pz_tree_standing.proofs.laws.unwoken_nodes_stay.Goals as goal

pub returns : goal.returns
returns c = record {
  calm = λ a f c1 s. unstarted_is_calm a f c1 s;
  steady = λ a d f c1 s. due_is_steady a c.unwoken_is_steady.ensures.law d f c1 s;
}
