use Rattle.std.proofs.Common.{List, ◌∷◌, ◌++◌, map, take}
use Rattle.pz_classes_code.specs.pz_syntax.Classes.{ProcessMethodTree}
use Rattle.pz_classes_code.specs.pz_syntax.ClassView.{process_method_view}
use Rattle.pz_check_names.specs.devices.Shown.{ShowsMethods}
use Rattle.pz_check_names.proofs.methods.note_each.Given as goal

abbrev pub invariant-loop-method : goal.invariant-loop-method
invariant-loop-method l = (own : List ProcessMethodTree) (outer : List (List ProcessMethodTree)) → ShowsMethods (own ∷ outer) l.initial.noted
    → ShowsMethods ((own ++ map process_method_view (take l.method-index l.methods)) ∷ outer) l.noted
