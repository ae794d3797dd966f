use Rattle.pz_rules.proofs.Moments as moments
use Rattle.pz_rules.proofs.laws.time_waits.Goals as goal

pub returns : goal.returns
returns c = record { law = λ setting config d a wires. moments.time_waits setting config wires d a }
