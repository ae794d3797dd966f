use Rattle.pz_rules.proofs.Wires.{wires_known}
use Rattle.pz_rules.proofs.laws.wires_are_known.Goals as goal

pub returns : goal.returns
returns c = record { law = λ m sound. wires_known m sound (c.ends_share_wires.ensures.law m) }
