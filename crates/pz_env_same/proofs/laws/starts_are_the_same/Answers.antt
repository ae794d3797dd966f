use Rattle.pz_env_same.proofs.Starting.{start_there, start_back}
use Rattle.pz_env_same.proofs.laws.starts_are_the_same.Goals as goal

pub returns : goal.returns
returns k = record {
  some = start_there;
  only = start_back;
}
