use Rattle.pz_env_same.proofs.Evaluations.{same_data_back, finds, finds_all}
use Rattle.pz_env_same.proofs.laws.evaluations_are_the_same.Goals as goal

pub returns : goal.returns
returns c = record {
  value = λ m n now frame s t allowed o left same. (finds m n same now frame s allowed t o left, finds n m (same_data_back m n same) now frame s allowed t o left);
  list = λ m n now frame s ts allowed o left same. (finds_all m n same now frame s allowed ts o left, finds_all n m (same_data_back m n same) now frame s allowed ts o left);
}
