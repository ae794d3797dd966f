use Rattle.std.proofs.Common.{◌≡◌, ◌≤◌, ℕ, length}
use Rattle.pz_classes_code.specs.pz_syntax.Classes.{ModelTree}
use Rattle.pz_classes_code.specs.pz_value.declared.value.Value.{Value}
use Rattle.pz_classes_code.specs.pz_value.declared.value.Value.TheVariants.{Nil}
use Rattle.pz_classes_code.specs.CodeView.{list_view}
use Rattle.pz_eval_operations.specs.pz_eval_rules.devices.Computed.{Computation, and_then, sequence, evaluated}
use Rattle.pz_eval_operations.specs.devices.Sites.{place_of, memory_of}
use Rattle.pz_eval_operations.specs.devices.Within.{ActivationWithin}
use Rattle.pz_eval_machine.proofs.choosing.assign_numbers.Given as goal

abbrev pub invariant-list : goal.invariant-list
invariant-list l = record {
  goes : (model : ModelTree) (now : ℕ) (next : Computation Value) → and_then (sequence model now (evaluated model now l.depth) (place_of l.fn.activation.site) Nil (list_view l.left) (memory_of l.activation l.state.held) l.units) (λ _. next)
      ≡ and_then (sequence model now (evaluated model now l.depth) (place_of l.fn.activation.site) Nil (list_view l.fn.codes) (memory_of l.fn.activation l.fn.state.held) l.fn.units) (λ _. next);
  marks : l.state.marks ≡ l.fn.state.marks;
  count : length l.state.held.objects ≡ length l.fn.state.held.objects;
  site : l.activation.site ≡ l.fn.activation.site;
  tasks : l.activation.tasks ≡ l.fn.activation.tasks;
  within : ActivationWithin (length l.state.held.objects) l.activation;
  units : l.units ≤ l.fn.units;
}

abbrev pub decreases-list : goal.decreases-list
decreases-list l = length l.left
