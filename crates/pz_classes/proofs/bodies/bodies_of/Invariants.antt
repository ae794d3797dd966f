use Rattle.std.proofs.Common.{◌≡◌, ◌++◌, suc, map, drop}
use Rattle.pz_classes_code.specs.pz_syntax.ClassView.{decl_view, model_view}
use Rattle.pz_classes_rules.specs.Bodies.{bodies_from, bodies}
use Rattle.pz_classes_rules.specs.BodyView.{body_view}
use Rattle.pz_classes.proofs.bodies.bodies_of.Given as goal

abbrev pub invariant-loop-decl : goal.invariant-loop-decl
invariant-loop-decl l = record {
  counted : l.number ≡ l.decl-index;
  listed : map body_view l.bodies ++ bodies_from (model_view l.model) (suc l.number) (map decl_view (drop l.decl-index l.decl-items)) ≡ bodies (model_view l.model);
}
