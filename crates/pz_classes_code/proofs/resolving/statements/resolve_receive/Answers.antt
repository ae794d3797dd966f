use Rattle.pz_classes_code.specs.ScopeView.{scope_view}
use Rattle.pz_classes_code.proofs.ResolvedSteps.{receive_is}
use Rattle.pz_classes_code.proofs.resolving.statements.resolve_receive.Goals as goal

pub returns : goal.returns
returns c = receive_is (scope_view c.args.scope.now) c.args.pos c.args.port.now c.args.name.now c.in_ok-share_name.field-0 c.port.result c.in_ok-resolve_into.field-0 c.in_ok-resolve_condition.field-0 c.in_ok-new.field-0 c.args.into.now c.args.condition.now c.args.block.now
    c.in_ok-share_name.ensures c.port.ensures c.in_ok-resolve_into.ensures c.in_ok-resolve_condition.ensures (rw c.in_ok-new.ensures c.in_ok-share_part.ensures)
