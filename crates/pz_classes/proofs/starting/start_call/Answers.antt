use Rattle.std.proofs.Common.{◌≡◌, ap, ◌∙◌, [], rules}
use Rattle.pz_classes_code.specs.pz_syntax.Statements.{call}
use Rattle.pz_classes_code.specs.pz_syntax.ExpressionView as tree
use Rattle.pz_classes_code.specs.CodeView as code
use Rattle.pz_classes_code.specs.Resolution.{resolved_all}
use Rattle.pz_classes.specs.devices.Surrounding.{scope_around}
use Rattle.pz_classes.proofs.StartCalls.{call_is}
use Rattle.pz_classes.proofs.starting.start_call.Goals as goal

pub returns : goal.returns
returns c =
    let args : code.list_view c.in_ok-args.args ≡ resolved_all (scope_around c.args.around.now c.args.classes.now []) (tree.list_view c.args.start.now.args) = search rules in
    call_is c.args.start.now.method.pos c.args.start.now.method c.in_ok-args.args c.in_ok-new.field-0 (c.in_ok-new.ensures ∙ c.in_ok-form.ensures) ∙ ap (λ es. call c.args.start.now.method.pos c.args.start.now.method es []) args
