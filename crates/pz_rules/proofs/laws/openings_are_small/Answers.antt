use Rattle.pz_rules.proofs.SmallOpenings.{bodies_few, starts_few}
use Rattle.pz_rules.proofs.laws.openings_are_small.Goals as goal

pub returns : goal.returns
returns c = record { bodies = bodies_few; starts = starts_few }
