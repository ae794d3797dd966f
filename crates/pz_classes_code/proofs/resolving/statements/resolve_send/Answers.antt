use Rattle.pz_classes_code.specs.ScopeView.{scope_view}
use Rattle.pz_classes_code.proofs.ResolvedSteps.{send_is}
use Rattle.pz_classes_code.proofs.resolving.statements.resolve_send.Goals as goal

pub returns : goal.returns
returns c = send_is (scope_view c.args.scope.now) c.args.pos c.args.port.now c.args.name.now c.in_ok-share_name.field-0 c.port.result c.in_ok-share_part.field-0 c.in_ok-share_part-2.field-0 c.args.args.now c.args.block.now
    c.in_ok-share_name.ensures c.port.ensures c.in_ok-share_part.ensures c.in_ok-share_part-2.ensures
