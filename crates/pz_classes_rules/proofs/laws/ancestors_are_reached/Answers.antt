use Rattle.pz_classes_rules.proofs.Reaching.{reached}
use Rattle.pz_classes_rules.proofs.laws.ancestors_are_reached.Goals as goal

pub returns : goal.returns
returns c = record { law = reached }
