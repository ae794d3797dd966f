use Rattle.pz_eval_rules.proofs.Exact.{has_one_outcome}
use Rattle.pz_eval_rules.proofs.laws.evaluation_has_one_outcome.Goals as goal

pub returns : goal.returns
returns c = record { law = has_one_outcome }
