use Rattle.pz_trace.proofs.Headed.{one_heading, actions_have_headings}
use Rattle.pz_trace.proofs.EveryHeadings.{every_heading}
use Rattle.pz_trace.proofs.laws.headings_tell_actions.Goals as goal

pub returns : goal.returns
returns c = record { one = one_heading; some = every_heading; actions = actions_have_headings }
