use Rattle.std.proofs.Common.{◌≡◌, ℕ, length}
use Rattle.pz_classes_code.specs.pz_syntax.Classes.{ModelTree}
use Rattle.pz_classes_code.specs.CodeView.{list_view}
use Rattle.pz_state.specs.References.{RefersWithin}
use Rattle.pz_eval_operations.specs.pz_eval_rules.devices.Computed.{sequence, evaluated}
use Rattle.pz_eval_operations.specs.devices.Sites.{place_of, memory_of}
use Rattle.pz_eval_operations.specs.devices.Within.{ActivationWithin}
use Rattle.pz_eval_machine.specs.devices.Weights.{list_weight, NoMore}
use Rattle.pz_eval_machine.proofs.continuing.run_list.Given as goal

abbrev pub invariant-list : goal.invariant-list
invariant-list l = record {
  goes : (model : ModelTree) (now : ℕ) → sequence model now (evaluated model now l.depth) (place_of l.activation.site) l.last (list_view l.left) (memory_of l.activation l.state.held) l.units
      ≡ sequence model now (evaluated model now l.depth) (place_of l.fn.activation.site) l.fn.value (list_view l.fn.codes) (memory_of l.fn.activation l.fn.state.held) l.fn.units;
  marks : l.state.marks ≡ l.fn.state.marks;
  count : length l.state.held.objects ≡ length l.fn.state.held.objects;
  site : l.activation.site ≡ l.fn.activation.site;
  tasks : l.activation.tasks ≡ l.fn.activation.tasks;
  value : RefersWithin (length l.state.held.objects) l.last;
  within : ActivationWithin (length l.state.held.objects) l.activation;
  weighs : NoMore l.fn.units (list_weight (list_view l.fn.codes)) l.units (list_weight (list_view l.left));
}

abbrev pub decreases-list : goal.decreases-list
decreases-list l = length l.left
