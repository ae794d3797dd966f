use Rattle.pz_eval_rules.proofs.Exact.{list_has_one_outcome}
use Rattle.pz_eval_rules.proofs.laws.list_has_one_outcome.Goals as goal

pub returns : goal.returns
returns c = record { law = list_has_one_outcome }
