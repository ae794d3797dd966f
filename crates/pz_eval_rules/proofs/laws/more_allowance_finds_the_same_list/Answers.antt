use Rattle.pz_eval_rules.proofs.Exact.{more_finds_list}
use Rattle.pz_eval_rules.proofs.laws.more_allowance_finds_the_same_list.Goals as goal

pub returns : goal.returns
returns c = record { law = more_finds_list }
