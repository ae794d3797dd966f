use Rattle.pz_env_closing.proofs.SameRuns.{end_once}
use Rattle.pz_env_closing.proofs.laws.driven_runs_end_once.Goals as goal

pub returns : goal.returns
returns c = end_once c.driven_runs_are_closed.ensures c.one_run.ensures c.closed_trees_are_sound.ensures.law
