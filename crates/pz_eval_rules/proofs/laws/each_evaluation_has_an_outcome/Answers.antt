use Rattle.pz_eval_rules.proofs.Exact.{each_has_an_outcome}
use Rattle.pz_eval_rules.proofs.laws.each_evaluation_has_an_outcome.Goals as goal

pub returns : goal.returns
returns c = record { law = each_has_an_outcome }
