use Rattle.pz_run_playing.proofs.OneRun as runs
use Rattle.pz_run_playing.proofs.laws.one_run.Goals as goal

pub returns : goal.returns
returns c = runs.one_run c.one_chosen_run.ensures.one c.what_fits_goes_on.ensures.start
