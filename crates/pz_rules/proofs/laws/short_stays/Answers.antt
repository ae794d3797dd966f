use Rattle.pz_rules.proofs.Stepped.{next_short}
use Rattle.pz_rules.proofs.laws.short_stays.Goals as goal

pub returns : goal.returns
returns c = record { law = next_short }
