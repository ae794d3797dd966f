use Rattle.std.proofs.Common.{◌≡◌, ℕ, length}
use Rattle.pz_classes_code.specs.pz_syntax.Classes.{ModelTree}
use Rattle.pz_classes_code.specs.CodeView.{list_view}
use Rattle.pz_eval_operations.specs.pz_eval_rules.devices.Computed.{and_then, arguments, evaluated}
use Rattle.pz_eval_operations.specs.devices.Sites.{place_of, memory_of}
use Rattle.pz_eval_operations.specs.devices.Views.{sendings_view}
use Rattle.pz_eval_machine.specs.devices.Tasks.{sent}
use Rattle.pz_eval_operations.specs.devices.Within.{RequestWithin}
use Rattle.pz_eval_machine.specs.devices.Weights.{list_weight, NoMore}
use Rattle.pz_eval_machine.proofs.continuing.go_on_arguments.Given as goal

abbrev pub invariant-arguments : goal.invariant-arguments
invariant-arguments l = record {
  goes : (model : ModelTree) (now : ℕ) → and_then (arguments model now (evaluated model now l.request.value.depth) (place_of l.fn.activation.site) l.request.value.arguments.items (list_view l.left) (memory_of l.fn.activation l.fn.state.held) l.units) (sent model now l.request.value.depth (place_of l.fn.activation.site) l.request.value.receiver l.request.value.selector.now (sendings_view l.request.value.more.now))
      ≡ and_then (arguments model now (evaluated model now l.fn.request.value.depth) (place_of l.fn.activation.site) l.fn.request.value.arguments.items (list_view l.fn.codes) (memory_of l.fn.activation l.fn.state.held) l.fn.units) (sent model now l.fn.request.value.depth (place_of l.fn.activation.site) l.fn.request.value.receiver l.fn.request.value.selector.now (sendings_view l.fn.request.value.more.now));
  activation : l.activation ≡ l.fn.activation;
  request : RequestWithin (length l.fn.state.held.objects) l.request.value;
  weighs : NoMore l.fn.units (list_weight (list_view l.fn.codes)) l.units (list_weight (list_view l.left));
}

abbrev pub decreases-arguments : goal.decreases-arguments
decreases-arguments l = length l.left
