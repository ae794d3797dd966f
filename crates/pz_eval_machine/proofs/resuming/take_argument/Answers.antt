use Rattle.std.proofs.Common.{length, sym, subst}
use Rattle.pz_classes_code.specs.CodeView.{list_view}
use Rattle.pz_state.specs.References.{RefersWithin}
use Rattle.pz_eval_operations.specs.declared.task.Request.{Request}
use Rattle.pz_eval_operations.specs.devices.Sites.{place_of, memory_of}
use Rattle.pz_eval_machine.specs.devices.Tasks.{pending, coming}
use Rattle.pz_eval_operations.specs.devices.Within.{RequestWithin}
use Rattle.pz_eval_machine.proofs.Going.{goes_same}
use Rattle.pz_eval_machine.proofs.Within.{all_push}
use Rattle.pz_eval_machine.proofs.Arguments.{argument_given}
use Rattle.pz_eval_machine.proofs.resuming.take_argument.Goals as goal

pub go_on_arguments-requires-clause-request : goal.go_on_arguments-requires-clause-request
go_on_arguments-requires-clause-request c =
    let there : RequestWithin (length c.args.state.now.held.objects) c.deref_mut.result.now = subst (λ (q : Request). RequestWithin (length c.args.state.now.held.objects) q) (sym c.deref_mut.ensures.value) c.requires.request in
    record {
      receiver = there.receiver;
      arguments = all_push (RefersWithin (length c.args.state.now.held.objects)) c.deref_mut.result.now.arguments.items c.add_argument.new.arguments.items c.args.value c.in_ok-add_argument.ensures there.arguments c.requires.value;
    }

pub returns-clause-goes : goal.returns-clause-goes
returns-clause-goes c model now =
    goes_same (coming model now c.go_on_arguments.new.activation c.args.state.now.held c.go_on_arguments.new.units) c.go_on_arguments.result c.go_on_arguments.new.units
    (argument_given model now (place_of c.args.activation.now.site) (memory_of c.args.activation.now c.args.state.now.held) c.args.units.now c.args.request.value c.deref_mut.result.now c.add_argument.new.arguments.items (list_view c.args.rest.now) c.args.value (pending model now (place_of c.args.activation.now.site) c.args.activation.now.tasks.items)
    c.deref_mut.ensures.value c.in_ok-add_argument.ensures)
    (c.go_on_arguments.ensures.goes model now)
