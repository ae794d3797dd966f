use Rattle.pz_eval_rules.specs.Steps.{applied}
use Rattle.pz_eval_operations.proofs.Counted.{tells_counts, tick_counts}
use Rattle.pz_eval_operations.proofs.Counted.{counted}
use Rattle.pz_eval_operations.proofs.operating.apply_counted.Goals as goal

pub returns-in-Ok-clause-counts : goal.returns-in-Ok-clause-counts
returns-in-Ok-clause-counts c locals =
    tells_counts c.apply_between.result (applied c.args.op c.args.at c.args.left.now c.args.right (record { state = c.args.state.now.held; locals = locals })) (record { state = c.apply_between.new.state.held; locals = locals }) c.args.units.now c.tick.new.units c.in-Ok.ensures (c.apply_between.ensures.tells locals)

pub returns-in-Err-clause-counts : goal.returns-in-Err-clause-counts
returns-in-Err-clause-counts c locals =
    tick_counts c.in-Err.stop (applied c.args.op c.args.at c.args.left.now c.args.right (record { state = c.args.state.now.held; locals = locals })) (record { state = c.args.state.now.held; locals = locals }) c.args.units.now c.tick.new.units c.in-Err.ensures

pub returns-in-Ok-clause-counted : goal.returns-in-Ok-clause-counted
returns-in-Ok-clause-counted c = counted c.apply_between.result c.args.units.now c.tick.new.units c.in-Ok.ensures
