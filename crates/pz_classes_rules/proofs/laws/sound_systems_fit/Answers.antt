use Rattle.pz_classes_rules.proofs.SoundSystem.{system_fits}
use Rattle.pz_classes_rules.proofs.laws.sound_systems_fit.Goals as goal

pub returns : goal.returns
returns c = record { law = system_fits }
