use Rattle.std.proofs.Common.{take}
use Rattle.pz_classes_code.specs.pz_syntax.ClassView.{model_view}
use Rattle.pz_classes_lineage.specs.Preorder.{visited}
use Rattle.pz_classes.specs.devices.Fronts.{Fills}
use Rattle.pz_classes.proofs.sharing.fill_table.Given as goal

abbrev pub invariant-loop-visit : goal.invariant-loop-visit
invariant-loop-visit l = Fills (model_view l.model) (visited (take l.visit-index l.visits)) l.initial.table l.table
