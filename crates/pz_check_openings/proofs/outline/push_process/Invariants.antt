use Rattle.std.proofs.Common.{◌≡◌, ◌++◌, map, take, Some}
use Rattle.pz_classes.specs.pz_syntax.ClassView.{process_method_view}
use Rattle.pz_check_openings.specs.devices.Outlines.{outline_of}
use Rattle.pz_check_openings.proofs.outline.push_process.Given as goal

abbrev pub invariant-loop-method : goal.invariant-loop-method
invariant-loop-method l = l.outlines ≡ l.fn.outlines ++ map (λ r. Some (outline_of (process_method_view r))) (take l.method-index l.methods)
