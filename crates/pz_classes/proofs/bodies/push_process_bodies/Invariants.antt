use Rattle.std.proofs.Common.{◌≡◌, ◌++◌, map, drop}
use Rattle.pz_classes_code.specs.pz_syntax.ClassView.{process_method_view}
use Rattle.pz_classes_rules.specs.Bodies.{process_body_in}
use Rattle.pz_classes_rules.specs.BodyView.{body_view}
use Rattle.pz_classes.specs.devices.Surrounding.{scope_around}
use Rattle.pz_classes.proofs.bodies.push_process_bodies.Given as goal

abbrev pub invariant-loop-method : goal.invariant-loop-method
invariant-loop-method l = map body_view l.bodies ++ map (process_body_in (scope_around l.around l.classes)) (map process_method_view (drop l.method-index l.methods))
    ≡ map body_view l.initial.bodies ++ map (process_body_in (scope_around l.around l.classes)) (map process_method_view l.methods)
