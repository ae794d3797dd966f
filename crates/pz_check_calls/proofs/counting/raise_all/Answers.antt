use Rattle.pz_check_calls.proofs.Raisings.{none_raised, raises_on}
use Rattle.pz_check_calls.proofs.counting.raise_all.Goals as goal

pub loop-method-init : goal.loop-method-init
loop-method-init c = none_raised c.args.methods.now c.args.totals.now.items c.requires

pub loop-method-preserved : goal.loop-method-preserved
loop-method-preserved c = raises_on c.args.methods.now c.args.totals.now.items c.loop-method.totals.items c.raise.new.totals.items c.loop-method.grew c.raise.result c.either-grew.result c.loop-method.method c.loop-method-test.true c.raise.ensures.grew c.raise.ensures.raised c.either-grew.ensures c.loop-method.invariant
