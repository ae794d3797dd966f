use Rattle.pz_env_closing.proofs.SameRuns.{closed_are_driven}
use Rattle.pz_env_closing.proofs.laws.closed_runs_are_driven.Goals as goal

pub returns : goal.returns
returns c =
    closed_are_driven c.closed_tree_closes.ensures.law c.lines_are_the_same.ensures.event c.lines_are_the_same.ensures.end c.runs_are_the_same.ensures.chosen_closed
