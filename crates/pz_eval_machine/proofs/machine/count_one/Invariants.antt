use Rattle.std.proofs.Common.{◌≡◌, ◌≤◌, length}
use Rattle.std.specs.Prelude.{All}
use Rattle.pz_classes_code.specs.pz_syntax.Classes.{ModelTree}
use Rattle.pz_eval_operations.specs.pz_classes.devices.Rows.{AreClasses}
use Rattle.pz_eval_operations.specs.devices.Sites.{place_of, memory_at}
use Rattle.pz_eval_machine.specs.devices.Tasks.{meant, unwound}
use Rattle.pz_eval_machine.specs.devices.Steps.{root}
use Rattle.pz_eval_machine.specs.devices.Within.{ControlWithin}
use Rattle.pz_eval_operations.specs.devices.Within.{ActivationWithin}
use Rattle.pz_eval_machine.specs.devices.Weights.{total}
use Rattle.pz_eval_machine.proofs.machine.count_one.Given as goal

abbrev pub invariant-steps : goal.invariant-steps
invariant-steps l = record {
  goes : (model : ModelTree) → AreClasses model l.fn.basis.classes.now → unwound model l.fn.basis.clock l.callers.items (meant model l.fn.basis.clock (place_of l.activation.site) l.activation.tasks.items l.control (memory_at l.activation.site l.state.held l.activation.locals.items) l.units)
      ≡ unwound model l.fn.basis.clock l.fn.callers.items (meant model l.fn.basis.clock (place_of l.fn.activation.site) l.fn.activation.tasks.items l.fn.first (memory_at l.fn.activation.site l.fn.state.held l.fn.activation.locals.items) l.fn.units);
  marks : l.state.marks ≡ l.fn.state.marks;
  count : length l.fn.state.held.objects ≤ length l.state.held.objects;
  root : root l.callers.items (place_of l.activation.site) ≡ root l.fn.callers.items (place_of l.fn.activation.site);
  control : ControlWithin (length l.state.held.objects) l.control;
  within : ActivationWithin (length l.state.held.objects) l.activation;
  callers : All (ActivationWithin (length l.state.held.objects)) l.callers.items;
  units : l.units ≡ l.fn.units;
}

abbrev pub decreases-steps : goal.decreases-steps
decreases-steps l = total l.control l.activation l.callers.items
