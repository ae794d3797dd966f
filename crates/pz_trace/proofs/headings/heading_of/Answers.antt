use Rattle.pz_trace.specs.Headings.{step, other}
use Rattle.pz_trace.proofs.headings.heading_of.Goals as goal

pub returns-in-Some : goal.returns-in-Some
returns-in-Some c = step c.in-Some.clock c.in-Some.n c.in-Some.k c.in-Some.ensures

pub returns-in-None : goal.returns-in-None
returns-in-None c = other c.in-None.ensures
