use Rattle.pz_rules.proofs.Numbers.{least_is_free, free_is_least}
use Rattle.pz_rules.proofs.laws.frames_are_numbered.Goals as goal

pub returns : goal.returns
returns c = record { free = least_is_free; one = free_is_least }
