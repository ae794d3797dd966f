use Rattle.pz_rules.proofs.CodedTrees.{steps_set, bodies_set}
use Rattle.pz_rules.proofs.laws.trees_are_sets.Goals as goal

pub returns : goal.returns
returns c = record { statements = steps_set; bodies = bodies_set }
