use Rattle.std.proofs.Common.{arith}
use Rattle.std.proofs.Math.Seq.{take-add}
use Rattle.std.proofs.lemmas.Grind.{common_steps}
use Rattle.pz_io.proofs.whole.write_all.Goals as goal

pub writes-preserved : goal.writes-preserved
writes-preserved g c = grind (arith, common_steps, take-add c.writes.sent c.in-Took.n c.args.bytes.now, c.writes.invariant, c.in-Took.ensures)
