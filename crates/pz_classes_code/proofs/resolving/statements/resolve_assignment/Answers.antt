use Rattle.std.proofs.Common.{◌∙◌, ap}
use Rattle.pz_classes_code.specs.declared.code.Code.{Code}
use Rattle.pz_classes_code.specs.CodeView.{view}
use Rattle.pz_classes_code.specs.ScopeView.{scope_view}
use Rattle.pz_classes_code.proofs.ResolvedSteps.{assignment_is}
use Rattle.pz_classes_code.proofs.resolving.statements.resolve_assignment.Goals as goal

pub returns : goal.returns
returns c = assignment_is (scope_view c.args.scope.now) c.args.pos c.args.target.now c.slot.result c.in_ok-value.value c.args.value.now
    c.slot.ensures (ap (λ (x : Code). view x) c.in_ok-value.ensures ∙ c.in_ok-resolve.ensures)
