use Rattle.std.proofs.Common.{◌≡◌, [], length, drop}
use Rattle.std.specs.Prelude.{All}
use Rattle.pz_classes_code.specs.pz_syntax.Classes.{ModelTree}
use Rattle.pz_classes_code.specs.CodeView.{list_view}
use Rattle.pz_copy.specs.pz_state.References.{RefersWithin}
use Rattle.pz_eval_machine.specs.pz_classes.devices.Rows.{AreClasses}
use Rattle.pz_eval_machine.specs.pz_eval_rules.Memories.{in_process}
use Rattle.pz_eval_machine.specs.pz_eval_rules.Outcomes.{outside}
use Rattle.pz_eval_machine.specs.pz_eval_rules.devices.Computed.{arguments, evaluated}
use Rattle.pz_eval.proofs.listing.evaluate_list.Given as goal

abbrev pub invariant-loop-code : goal.invariant-loop-code
invariant-loop-code l = record {
  gathers : (model : ModelTree) → AreClasses model l.fn.basis.classes.now
      → arguments model l.fn.basis.clock (evaluated model l.fn.basis.clock l.depth) (in_process l.frame.0) l.values (list_view (drop l.code-index l.codes)) (outside l.state.held) l.units
      ≡ arguments model l.fn.basis.clock (evaluated model l.fn.basis.clock l.depth) (in_process l.frame.0) [] (list_view l.codes) (outside l.fn.state.held) l.fn.units;
  marks : l.state.marks ≡ l.fn.state.marks;
  within : All (RefersWithin (length l.state.held.objects)) l.values;
}
