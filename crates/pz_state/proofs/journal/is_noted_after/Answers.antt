use Rattle.std.proofs.Common.{arith}
use Rattle.pz_state.proofs.Noted.{free}
use Rattle.pz_state.proofs.journal.is_noted_after.Goals as goal

pub returns : goal.returns
returns c = λ noted. free c.args.spot c.args.entries.now c.args.after c.args.place c.requires (omega arith) (c.is_noted_at.ensures noted)
