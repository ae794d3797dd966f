use Rattle.pz_env_same.proofs.Behind.{processes_see}
use Rattle.pz_env_same.proofs.Parts.{sees_back}
use Rattle.pz_env_same.proofs.laws.processes_see_the_same.Goals as goal

pub returns : goal.returns
returns c = record { symmetric = sees_back; law = processes_see }
