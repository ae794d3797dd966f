use Rattle.std.proofs.Common.{reverse}
use Rattle.rows_state.proofs.Shadowed.{after_open}
use Rattle.rows_state.proofs.subject.Subject.open.Goals as goal

pub invariant_of-self : goal.invariant_of-self
invariant_of-self c = let k = after_open (reverse c.self.inside.saved.items) c.self.inside.state c.open_frame.new.self c.args.locals c.open_frame.result c.open_frame.ensures.least c.open_frame.ensures.ok c.open_frame.ensures.err c.self.invariant.now c.self.invariant.saved in record { now = k.0; saved = k.1 }
