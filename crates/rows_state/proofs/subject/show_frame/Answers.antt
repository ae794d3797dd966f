use Rattle.std.proofs.Common.{arith}
use Rattle.rows_state.proofs.Shadowed.{has_local}
use Rattle.rows_state.proofs.subject.show_frame.Goals as goal

pub local-requires : goal.local-requires
local-requires c = has_local _ c.args.frame.locals c.loop-slot.slot c.requires (omega (arith, c.loop-slot-test.true))
