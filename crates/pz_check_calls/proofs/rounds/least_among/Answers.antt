use Rattle.std.proofs.Common.{arith}
use Rattle.pz_check_calls.proofs.Backs.{back_step}
use Rattle.pz_check_calls.proofs.rounds.least_among.Goals as goal

pub loop-number-preserved : goal.loop-number-preserved
loop-number-preserved c = back_step c.args.numbers.now c.args.methods.now c.index-methods-number.result c.as_slice.result.now c.loop-number.number _ _ _ _ c.number_at.result (omega arith) c.index-methods-number.is (omega arith) c.number_at.ensures c.as_slice.ensures c.least_in-least.ensures c.loop-number.invariant
