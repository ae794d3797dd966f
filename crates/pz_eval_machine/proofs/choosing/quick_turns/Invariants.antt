use Rattle.std.proofs.Common.{◌≡◌, ◌≤◌, ℕ, length}
use Rattle.pz_classes_code.specs.pz_syntax.declared.tokens.Pos.{Pos}
use Rattle.pz_classes_code.specs.pz_syntax.Classes.{ModelTree}
use Rattle.pz_classes_code.specs.CodeView.{view, list_view}
use Rattle.pz_eval_operations.specs.pz_eval_rules.devices.Laws.{TurnsGoOn}
use Rattle.pz_eval_operations.specs.devices.Sites.{place_of, memory_of}
use Rattle.pz_eval_operations.specs.devices.Within.{ActivationWithin}
use Rattle.pz_eval_machine.specs.devices.Tasks.{turning}
use Rattle.pz_eval_machine.proofs.choosing.quick_turns.Given as goal

abbrev pub invariant-turns : goal.invariant-turns
invariant-turns l = record {
  goes : TurnsGoOn → (model : ModelTree) (now : ℕ) (at : Pos) → turning model now l.fn.depth (place_of l.fn.activation.site) at (view l.fn.test) (list_view l.fn.body) (memory_of l.activation l.state.held) l.units
      ≡ turning model now l.fn.depth (place_of l.fn.activation.site) at (view l.fn.test) (list_view l.fn.body) (memory_of l.fn.activation l.fn.state.held) l.fn.units;
  marks : l.state.marks ≡ l.fn.state.marks;
  count : length l.state.held.objects ≡ length l.fn.state.held.objects;
  site : l.activation.site ≡ l.fn.activation.site;
  tasks : l.activation.tasks ≡ l.fn.activation.tasks;
  within : ActivationWithin (length l.state.held.objects) l.activation;
  units : l.units ≤ l.fn.units;
}

abbrev pub decreases-turns : goal.decreases-turns
decreases-turns l = l.units
