use Rattle.pz_run_reading.proofs.Opened.{never_open}
use Rattle.pz_run_reading.proofs.laws.open_or_refused.Goals as goal

pub returns : goal.returns
returns c = never_open c.one_model.ensures.one c.one_model.ensures.never_refused
