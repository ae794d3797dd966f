use Rattle.pz_rules.proofs.Passed.{moment_short}
use Rattle.pz_rules.proofs.laws.moments_are_short.Goals as goal

pub returns : goal.returns
returns c = record { law = λ setting config d short times is. moment_short setting config short times d is }
