use Rattle.pz_tree_standing.proofs.Starting.{at_start}
use Rattle.pz_tree_standing.proofs.laws.frames_stand_at_start.Goals as goal

pub returns : goal.returns
returns c = record { law = at_start c.frames_are_numbered.ensures.free }
