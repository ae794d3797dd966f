use Rattle.pz_env_same.proofs.Openings.{opened_same, opened_all_same}
use Rattle.pz_env_same.proofs.laws.openings_are_the_same.Goals as goal

pub returns : goal.returns
returns c = record {
  statement = λ m n edition class t s same. opened_same m n edition class same t s;
  sequence = λ m n edition class ts s same. opened_all_same m n edition class same ts s;
}
