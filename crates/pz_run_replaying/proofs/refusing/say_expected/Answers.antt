use Rattle.pz_run_replaying.proofs.Written.{none_written}
use Rattle.pz_run_replaying.proofs.refusing.say_expected.Goals as goal

pub returns-in_err-whole : goal.returns-in_err-whole
returns-in_err-whole g c = none_written c.rules_are_known.ensures _ _ c.from_residual.result c.from_residual.ensures.1
