use Rattle.std.proofs.Common.{ap, ◌∙◌}
use Rattle.pz_state.specs.devices.FrameTables.{StoredFrames, Table, frames_from}
use Rattle.pz_state.proofs.FrameTables.{frames_from-widened}
use Rattle.pz_state.proofs.frames.FrameTable.widen.Goals as goal

pub returns-clause-frames : goal.returns-clause-frames
returns-clause-frames c = ap (λ (table : Table). frames_from 1 table) c.in_ok-push.ensures.items ∙ frames_from-widened 1 c.self.inside.table.items ∙ ap (λ (s : StoredFrames). s.frames) c.self.view_is
