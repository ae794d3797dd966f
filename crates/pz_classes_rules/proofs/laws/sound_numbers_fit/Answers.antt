use Rattle.pz_classes_rules.proofs.SoundNumbers.{numbers_fit}
use Rattle.pz_classes_rules.proofs.laws.sound_numbers_fit.Goals as goal

pub returns : goal.returns
returns c = record { law = numbers_fit }
