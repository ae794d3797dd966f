use Rattle.pz_trace.proofs.Headed.{one_first_line, action_lines_differ, stop_is_no_action, stop_is_no_passing}
use Rattle.pz_trace.proofs.laws.lines_differ.Goals as goal

pub returns : goal.returns
returns c = record { first = one_first_line; offers = action_lines_differ; stop_acting = stop_is_no_action; stop_passing = stop_is_no_passing }
