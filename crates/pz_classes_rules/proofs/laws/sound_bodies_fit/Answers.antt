use Rattle.pz_classes_rules.proofs.SoundBodies.{bodies_fit}
use Rattle.pz_classes_rules.proofs.laws.sound_bodies_fit.Goals as goal

pub returns : goal.returns
returns c = record { law = bodies_fit }
