use Rattle.std.proofs.Common.{◌-◌, arith}
use Rattle.pz_classes_code.specs.CodeView.{view}
use Rattle.pz_eval_operations.specs.devices.Sites.{place_of, memory_of}
use Rattle.pz_eval_operations.proofs.Worth.{worth_found}
use Rattle.pz_eval_operations.proofs.attempts.plain_at_once.Goals as goal

pub returns-clause-finds : goal.returns-clause-finds
returns-clause-finds c =
    worth_found (place_of c.args.activation.now.site) (memory_of c.args.activation.now c.args.state.now.held) (view c.args.code.now) c.in_ok-value.value c.args.depth c.args.units.now (c.args.units.now - 1)
    (omega (arith, c.if-depth-eq0.false)) (omega (arith, c.if-units-eq0.false)) c.in_ok-value.ensures.worth
