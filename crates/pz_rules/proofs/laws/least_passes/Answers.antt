use Rattle.pz_rules.proofs.Moments as moments
use Rattle.pz_rules.proofs.Waiting.{passing_some, passing_takes, brings_to_zero}
use Rattle.pz_rules.proofs.laws.least_passes.Goals as goal

pub returns : goal.returns
returns c = record {
  least = λ setting config d. moments.least_passes setting config d;
  positive = λ setting config d wires. moments.time_positive setting config wires d;
  some = passing_some;
  takes = passing_takes;
  elapsed = brings_to_zero;
}
