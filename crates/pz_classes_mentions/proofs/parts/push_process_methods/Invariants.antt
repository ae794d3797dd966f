use Rattle.std.proofs.Common.{◌≡◌, ◌++◌, map, take}
use Rattle.pz_syntax.specs.ClassView.{process_method_view}
use Rattle.pz_classes_mentions.specs.Declarations.{process_method}
use Rattle.pz_classes_mentions.proofs.parts.push_process_methods.Given as goal

abbrev pub invariant-loop-method : goal.invariant-loop-method
invariant-loop-method l = l.out ≡ l.initial.out ++ map process_method (map process_method_view (take l.method-index l.methods))
