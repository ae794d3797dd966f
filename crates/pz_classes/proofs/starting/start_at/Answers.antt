use Rattle.std.proofs.Common.{ap, sym, ◌∙◌}
use Rattle.std.specs.Option.{option_map, option_copied}
use Rattle.pz_classes_code.specs.pz_syntax.ClassView.{model_view, start_view}
use Rattle.pz_classes_code.specs.StepView as step
use Rattle.pz_classes.proofs.Scopes.{call_is}
use Rattle.pz_classes.proofs.starting.start_at.Goals as goal

pub returns-in_ok-start_call-in-Some : goal.returns-in_ok-start_call-in-Some
returns-in_ok-start_call-in-Some c =
    call_is (model_view c.args.model.now) c.args.class (start_view c.in-Some.start.now) c.around_process-around.result c.args.classes.now c.args.members.now.variables c.args.members.now.ports (step.view c.in_ok-start_call-in-Some.field-0)
    (sym c.declared_start.ensures ∙ ap (λ o. option_map start_view (option_copied o)) c.in-Some.is)
    (c.around_process-around.ensures (model_view c.args.model.now) c.args.classes.now c.requires.numbered)
    c.requires.inherited.variables c.requires.inherited.ports c.in_ok-start_call-in-Some.ensures
