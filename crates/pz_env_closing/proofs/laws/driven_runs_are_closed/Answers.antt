use Rattle.pz_env_closing.proofs.SameRuns.{driven_is_closed}
use Rattle.pz_env_closing.proofs.laws.driven_runs_are_closed.Goals as goal

pub returns : goal.returns
returns c = λ m script limits policy.
    driven_is_closed c.closed_tree_closes.ensures.law c.lines_are_the_same.ensures.event c.lines_are_the_same.ensures.end c.one_chosen_run.ensures.is_run m script limits policy
    c.runs_are_the_same.ensures.chosen_driven
