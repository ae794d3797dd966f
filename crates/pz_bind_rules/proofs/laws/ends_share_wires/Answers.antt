use Rattle.pz_classes_rules.specs.Members.{ports}
use Rattle.pz_bind_rules.specs.Nest.{system_class}
use Rattle.pz_bind_rules.specs.devices.Layouts.{layouts}
use Rattle.pz_bind_rules.proofs.Lists.{ids_once}
use Rattle.pz_bind_rules.proofs.Wired.{share}
use Rattle.pz_bind_rules.proofs.laws.ends_share_wires.Goals as goal

pub returns : goal.returns
returns c = record { law = λ m sound. share m (c.sound_systems_fit.ensures.law m sound) (λ k. ids_once (ports m k) ((c.sound_classes_fit.ensures.law m sound).ports_apart k)) (c.ends_share_wires.ensures.law (layouts m) (system_class m)) }
