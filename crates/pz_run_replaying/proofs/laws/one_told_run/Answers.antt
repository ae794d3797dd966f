use Rattle.pz_run_replaying.proofs.laws.one_told_run.Goals as goal
use Rattle.pz_run_replaying.proofs.OneTold.{one_told_run}

pub returns : goal.returns
returns c = one_told_run c.rules_are_known.ensures
