use Rattle.pz_state.proofs.FrameNumbers.{ordered}
use Rattle.pz_state.proofs.frames.FrameTable.numbers.Goals as goal

pub returns-clause-ordered : goal.returns-clause-ordered
returns-clause-ordered c = ordered c.self.inside.table.items c.self.view_is
