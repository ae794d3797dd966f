use Rattle.pz_rules.proofs.Chosen.{one_chosen_run, chosen_runs_are_runs}
use Rattle.pz_rules.proofs.Existing.{run_some}
use Rattle.pz_rules.proofs.laws.one_chosen_run.Goals as goal

pub returns : goal.returns
returns c = record {
  one = one_chosen_run;
  some = λ setting policy j config sound wires all fit. run_some setting policy wires (c.sound_bodies_fit.ensures.law setting.model sound) j config all fit;
  is_run = chosen_runs_are_runs;
}
