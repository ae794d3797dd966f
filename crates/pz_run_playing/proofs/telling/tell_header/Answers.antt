use Rattle.pz_run_playing.proofs.Written.{none_written}
use Rattle.pz_run_playing.proofs.telling.tell_header.Goals as goal

pub returns-in_err-line : goal.returns-in_err-line
returns-in_err-line g c = λ text is. none_written c.rules_are_known.ensures _ text c.from_residual.result c.from_residual.ensures.1
