use Rattle.std.proofs.Common.{arith}
use Rattle.pz_classes_code.specs.pz_syntax.ClassView.{model_view}
use Rattle.pz_classes.proofs.Leasts.{among_step}
use Rattle.pz_classes.proofs.checking.least_violation.Goals as goal

pub loop-decl-preserved : goal.loop-decl-preserved
loop-decl-preserved c = record {
  counted = omega arith;
  found = among_step (model_view c.args.model.now) _ c.decl-item.result _ _ _ _ _ _ _ c.loop-decl-test.true c.decl-item.is (omega arith) (omega arith) c.least_of_class-least.ensures c.loop-decl.invariant.found;
}
