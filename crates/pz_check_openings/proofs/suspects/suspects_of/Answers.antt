use Rattle.std.proofs.lemmas.Result.{IfOk-weaker}
use Rattle.pz_check_openings.specs.devices.Settling.{value_of}
use Rattle.pz_check_openings.proofs.Ordering.{by_none, by_order}
use Rattle.pz_check_openings.proofs.suspects.suspects_of.Goals as goal

pub returns-then-are_ordered : goal.returns-then-are_ordered
returns-then-are_ordered c = IfOk-weaker c.suspects_by.result _ _ (λ those are. by_order (value_of c.args.names.now c.args.ranks.now) c.args.methods.now those (c.are_ordered.ensures c.if-are_ordered.true) are) c.suspects_by.ensures

pub returns : goal.returns
returns c = IfOk-weaker c.suspects_by-2.result _ _ (λ those are. by_none c.args.names.now c.args.methods.now those are) c.suspects_by-2.ensures
