use Rattle.pz_rules.proofs.Room.{clock_low}
use Rattle.pz_rules.proofs.laws.clocks_stay_low.Goals as goal

pub returns : goal.returns
returns c = record { law = clock_low c.wires_are_known.ensures.law }
