use Rattle.pz_classes_rules.proofs.SoundClasses.{classes_fit}
use Rattle.pz_classes_rules.proofs.laws.sound_classes_fit.Goals as goal

pub returns : goal.returns
returns c = record { law = classes_fit }
