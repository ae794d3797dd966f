use Rattle.std.proofs.Common.{arith}
use Rattle.pz_check_names.specs.devices.Scopes.{model_of, decl_of}
use Rattle.pz_check_names.specs.devices.Misuses.{of_part}
use Rattle.pz_check_names.proofs.Lists.{flat_step}
use Rattle.pz_check_names.proofs.least.least_of_parts.Goals as goal

pub loop-part-preserved : goal.loop-part-preserved
loop-part-preserved c =
    flat_step (of_part (model_of c.args.declared.now) c.args.scope.now.class.0 (decl_of c.args.scope.now)) _ c.part-item.result _ _ _ _ _
    c.loop-part-test.true c.part-item.is (omega arith) c.in_ok-least.ensures c.loop-part.invariant
