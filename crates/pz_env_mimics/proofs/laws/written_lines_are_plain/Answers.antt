use Rattle.pz_env_mimics.proofs.Written.{written_plain}
use Rattle.pz_env_mimics.proofs.laws.written_lines_are_plain.Goals as goal

pub returns : goal.returns
returns c = record { law = written_plain }
