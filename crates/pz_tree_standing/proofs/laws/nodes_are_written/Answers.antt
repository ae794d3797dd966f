use Rattle.pz_tree_standing.proofs.Written.{summary_formed, written_right}
use Rattle.pz_tree_standing.proofs.laws.nodes_are_written.Goals as goal

pub returns : goal.returns
returns c = record {
  summary = summary_formed;
  right = written_right;
}
