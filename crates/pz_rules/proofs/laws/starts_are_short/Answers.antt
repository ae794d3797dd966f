use Rattle.pz_rules.proofs.Stepped.{start_is_short}
use Rattle.pz_rules.proofs.laws.starts_are_short.Goals as goal

pub returns : goal.returns
returns c = record { law = start_is_short }
