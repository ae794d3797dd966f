use Rattle.pz_rules.proofs.Passed.{passing_short}
use Rattle.pz_rules.proofs.laws.short_passes.Goals as goal

pub returns : goal.returns
returns c = record { law = passing_short }
