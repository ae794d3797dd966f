use Rattle.pz_copy.specs.pz_state.References.{RefersWithin}
use Rattle.rows_state.proofs.Taken.{one_more, each}
use Rattle.rows_state.proofs.conditions.refer_within.Goals as goal

pub loop-value-preserved : goal.loop-value-preserved
loop-value-preserved c = one_more (RefersWithin c.args.count) c.args.values.now c.loop-value.value-index c.value-item.result c.loop-value-test.true c.value-item.is c.loop-value.invariant (c.refers_within.ensures c.if-not-refers_within.false)

pub returns : goal.returns
returns c _ = each (RefersWithin c.args.count) c.args.values.now c.loop-value.value-index c.loop-value-test.false c.loop-value.invariant
