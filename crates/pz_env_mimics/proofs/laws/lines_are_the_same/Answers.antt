use Rattle.pz_env_mimics.proofs.Lines.{same_line, same_lines, same_end_line}
use Rattle.pz_env_mimics.proofs.laws.lines_are_the_same.Goals as goal

pub returns : goal.returns
returns c = record { event = λ g n e f has. same_line g n has e f; events = λ g n es fs has. same_lines g n has es fs; end = λ g n clock ending has. same_end_line g n has clock ending }
