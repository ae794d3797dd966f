-- Names and numbers are compared, entry by entry.
use Rattle.pz_env_tree.proofs.Refusing.{refused_found, refused_is}
use Rattle.pz_env_tree.proofs.laws.refusals_are_computed.Goals as goal

pub returns : goal.returns
returns c = λ m script line. (refused_found m script line, refused_is m script line)
