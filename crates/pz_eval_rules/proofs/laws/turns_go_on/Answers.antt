use Rattle.pz_eval_rules.proofs.Turns.{on_and_on}
use Rattle.pz_eval_rules.proofs.laws.turns_go_on.Goals as goal

pub returns : goal.returns
returns c = record { law = on_and_on }
