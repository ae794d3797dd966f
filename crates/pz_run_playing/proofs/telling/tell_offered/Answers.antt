use Rattle.pz_run_playing.proofs.Written.{none_written}
use Rattle.pz_run_playing.proofs.telling.tell_offered.Goals as goal

pub returns-in_err-make_line : goal.returns-in_err-make_line
returns-in_err-make_line g c = none_written c.rules_are_known.ensures _ _ c.from_residual.result c.from_residual.ensures.1
