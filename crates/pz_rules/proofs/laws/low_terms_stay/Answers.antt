use Rattle.pz_rules.proofs.Lower.{next_low, passing_low}
use Rattle.pz_rules.proofs.Moments.{low_is_not_stopped}
use Rattle.pz_rules.proofs.laws.low_terms_stay.Goals as goal

pub returns : goal.returns
returns c = record {
  action = λ setting config next a low h. next_low setting config low a next h;
  passing = passing_low;
  moment = λ setting config trouble low is. low_is_not_stopped setting config trouble low is;
}
