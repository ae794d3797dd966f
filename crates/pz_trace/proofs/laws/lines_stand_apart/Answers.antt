use Rattle.pz_trace.proofs.Unbroken.{header_lines, time_lines, action_lines, end_lines}
use Rattle.pz_trace.proofs.laws.lines_stand_apart.Goals as goal

pub returns : goal.returns
returns c = record { header = header_lines; time = time_lines; action = action_lines; end = end_lines }
