use Rattle.pz_state.proofs.FrameTables.{opened}
use Rattle.pz_state.proofs.frames.FrameTable.open_at.Goals as goal

pub returns-clause-frames : goal.returns-clause-frames
returns-clause-frames c = opened c.self.inside.table.items c.self.view_is c.args.number c.args.locals c.requires.within.0 c.requires.within.1 c.requires.free
