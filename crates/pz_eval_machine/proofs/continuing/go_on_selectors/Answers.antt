use Rattle.std.proofs.Common.{ℕ, ◌+◌, List, length, refl, sym, ap, ◌∙◌, subst, inr, arith}
use Rattle.std.specs.Prelude.{All}
use Rattle.std.proofs.lemmas.Result.{IfOk-weaker}
use Rattle.std.proofs.lemmas.List.Elements.{All-nil}
use Rattle.pz_classes_code.specs.pz_value.declared.value.Value.{Value}
use Rattle.pz_classes_code.specs.CodeView.{list_view}
use Rattle.pz_state.specs.References.{RefersWithin}
use Rattle.pz_eval_operations.specs.pz_eval_rules.devices.Computed.{and_then}
use Rattle.pz_eval_operations.specs.declared.task.Request.{Request}
use Rattle.pz_eval_operations.specs.devices.Sites.{place_of, memory_of}
use Rattle.pz_eval_machine.specs.devices.Tasks.{pending, coming}
use Rattle.pz_eval_operations.specs.devices.Within.{RequestWithin}
use Rattle.pz_eval_machine.specs.devices.Weights.{tasks_weight, load, NoMore}
use Rattle.pz_eval_machine.proofs.Going.{goes_same}
use Rattle.pz_eval_machine.proofs.Onward.{selectors_over, selectors_more}
use Rattle.pz_eval_machine.proofs.Weighing.{some_selectors}
use Rattle.pz_eval_machine.proofs.Arguments.{asked}
use Rattle.pz_eval_machine.proofs.continuing.go_on_selectors.Goals as goal

pub returns-in_default-clause-goes : goal.returns-in_default-clause-goes
returns-in_default-clause-goes c model now =
    selectors_over model now c.args.depth (place_of c.args.activation.now.site) (memory_of c.args.activation.now c.args.state.now.held) c.args.units.now (pending model now (place_of c.args.activation.now.site) c.args.activation.now.tasks.items) c.args.receiver c.args.sendings.now c.in_default.ensures.cases

pub returns-in_default-clause-weighs : goal.returns-in_default-clause-weighs
returns-in_default-clause-weighs c = inr (refl, omega arith)

pub returns-clause-goes : goal.returns-clause-goes
returns-clause-goes c model now =
    goes_same (coming model now c.go_on_arguments.new.activation c.args.state.now.held c.go_on_arguments.new.units) c.go_on_arguments.result c.go_on_arguments.new.units
    (ap (λ (q : Request). and_then (asked model now (place_of c.args.activation.now.site) q q.arguments.items (list_view c.arguments_of.result.now) (memory_of c.args.activation.now c.args.state.now.held) c.args.units.now) (pending model now (place_of c.args.activation.now.site) c.args.activation.now.tasks.items)) c.in_ok-request.ensures.ok
    ∙ selectors_more model now (place_of c.args.activation.now.site) (memory_of c.args.activation.now c.args.state.now.held) c.args.units.now (pending model now (place_of c.args.activation.now.site) c.args.activation.now.tasks.items) c.args.depth c.args.receiver c.in-Some.sending.now c.in-Some.more.now c.args.sendings.now c.new.result.items (list_view c.arguments_of.result.now) c.in-Some.ensures.cases.0 c.new.ensures.items c.arguments_of.ensures)
    (c.go_on_arguments.ensures.goes model now)

pub go_on_arguments-requires-clause-request : goal.go_on_arguments-requires-clause-request
go_on_arguments-requires-clause-request c =
    subst (λ (q : Request). RequestWithin (length c.args.state.now.held.objects) q) (sym c.in_ok-request.ensures.ok)
    (record { receiver = c.requires.receiver; arguments = subst (λ (ys : List Value). All (RefersWithin (length c.args.state.now.held.objects)) ys) (sym c.new.ensures.items) (All-nil (RefersWithin (length c.args.state.now.held.objects))) })

pub returns-clause-weighs : goal.returns-clause-weighs
returns-clause-weighs c =
    IfOk-weaker c.go_on_arguments.result _ _
    (λ k h. subst (λ (n : ℕ). NoMore c.args.units.now (n + tasks_weight c.args.activation.now.tasks.items) c.go_on_arguments.new.units (load k c.go_on_arguments.new.activation.tasks.items))
    (sym (some_selectors c.in-Some.sending.now c.in-Some.more.now c.args.sendings.now (list_view c.arguments_of.result.now) c.in-Some.ensures.cases.0 c.arguments_of.ensures)) h) c.go_on_arguments.ensures.weighs
