use Rattle.pz_state.proofs.FrameTables.{least, least_fits}
use Rattle.pz_state.proofs.frames.FrameTable.free_place.Goals as goal

pub returns-clause-least : goal.returns-clause-least
returns-clause-least c = least c.self.inside.table.items c.self.view_is c.self.inside.flags _ c.self.invariant.flags c.first_clear.ensures

pub returns-clause-within : goal.returns-clause-within
returns-clause-within c = least_fits c.self.inside.table.items c.self.view_is c.self.inside.flags _ c.self.invariant.flags c.first_clear.ensures
