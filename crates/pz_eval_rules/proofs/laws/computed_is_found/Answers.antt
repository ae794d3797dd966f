use Rattle.pz_eval_rules.proofs.Exact.{found, found_list}
use Rattle.pz_eval_rules.proofs.laws.computed_is_found.Goals as goal

pub returns-clause-value : goal.returns-clause-value
returns-clause-value c = found

pub returns-clause-list : goal.returns-clause-list
returns-clause-list c = found_list
