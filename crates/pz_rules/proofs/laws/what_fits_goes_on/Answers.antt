use Rattle.pz_rules.proofs.Kept.{start_fits, next_fits, passing_fits, next_some}
use Rattle.pz_rules.proofs.laws.what_fits_goes_on.Goals as goal

pub returns : goal.returns
returns c = record {
  start = λ setting config sound start. (start.all, start_fits setting config (c.sound_bodies_fit.ensures.law setting.model sound) start);
  stays = λ setting config next a d sound all fit.
      (next_fits setting config (c.sound_bodies_fit.ensures.law setting.model sound) fit a next, passing_fits setting config next d all fit);
  some = λ setting config a sound fit offer. next_some setting config (c.sound_bodies_fit.ensures.law setting.model sound) fit a offer;
}
