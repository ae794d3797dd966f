use Rattle.pz_env_same.proofs.Leading.{leads_there, leads_back}
use Rattle.pz_env_same.proofs.Elapsing.{passes_there, have_passed}
use Rattle.pz_env_same.proofs.laws.steps_are_the_same.Goals as goal

pub returns : goal.returns
returns k = record {
  action = λ n g c e p same more a of. (leads_there n g c e p same more a of, leads_back n g c e p same more a of);
  passing = λ n g c e p same more d. (λ next x old alone. passes_there n g c e p same more d next x old alone, λ after new. have_passed n g c e p same more d after new);
}
