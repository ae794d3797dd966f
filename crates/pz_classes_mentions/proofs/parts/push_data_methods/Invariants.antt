use Rattle.std.proofs.Common.{◌≡◌, ◌++◌, map, take}
use Rattle.pz_syntax.specs.ClassView.{data_method_view}
use Rattle.pz_classes_mentions.specs.Declarations.{data_method}
use Rattle.pz_classes_mentions.proofs.parts.push_data_methods.Given as goal

abbrev pub invariant-loop-method : goal.invariant-loop-method
invariant-loop-method l = l.out ≡ l.initial.out ++ map data_method (map data_method_view (take l.method-index l.methods))
