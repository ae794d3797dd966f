use Rattle.pz_rules.specs.devices.Start.{start_of}
use Rattle.pz_rules.proofs.Starts.{one_start, computed}
use Rattle.pz_rules.proofs.laws.start_is_one.Goals as goal

pub returns : goal.returns
returns c = record {
  one = one_start;
  some = λ setting sound. (start_of setting, computed setting (c.sound_classes_fit.ensures.law setting.model sound));
  computed = λ setting sound. computed setting (c.sound_classes_fit.ensures.law setting.model sound);
}
