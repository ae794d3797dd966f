use Rattle.pz_eval_operations.proofs.Counted.{counted}
use Rattle.pz_eval_machine.proofs.continuing.descend_counted.Goals as goal

pub returns-clause-counted : goal.returns-clause-counted
returns-clause-counted c = counted c.descend.result c.args.units.now c.tick.new.units c.in_ok-tick.ensures
