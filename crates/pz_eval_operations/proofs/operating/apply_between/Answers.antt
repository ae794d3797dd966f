use Rattle.std.proofs.Common.{length}
use Rattle.pz_eval_operations.proofs.operating.apply_between.Goals as goal

pub returns-in-Some-clause-tells : goal.returns-in-Some-clause-tells
returns-in-Some-clause-tells c locals = c.in-Some.ensures.applied c.args.at (record { state = c.args.state.now.held; locals = locals })

pub returns-in-Some-clause-within : goal.returns-in-Some-clause-within
returns-in-Some-clause-within c = c.in-Some.ensures.within (length c.args.state.now.held.objects)
