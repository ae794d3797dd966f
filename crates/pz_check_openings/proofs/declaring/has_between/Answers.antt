use Rattle.pz_check_openings.proofs.Marks.{none_more}
use Rattle.pz_check_openings.proofs.declaring.has_between.Goals as goal

pub loop-number-preserved : goal.loop-number-preserved
loop-number-preserved c = none_more c.args.methods.now c.args.first c.loop-number.number c.has_at.result c.has_at.ensures c.if-has_at.false c.loop-number.invariant
