use Rattle.std.proofs.Common.{take}
use Rattle.pz_classes_code.specs.pz_syntax.ClassView.{model_view}
use Rattle.pz_classes.specs.devices.Fronts.{Fills, classes_of}
use Rattle.pz_classes.proofs.lists.Lists.fill.Given as goal

abbrev pub invariant-loop-end : goal.invariant-loop-end
invariant-loop-end l = Fills (model_view l.model) (classes_of (take l.end-index l.ends)) l.initial.table l.table
