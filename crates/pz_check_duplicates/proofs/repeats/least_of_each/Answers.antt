use Rattle.std.proofs.Common.{arith}
use Rattle.pz_classes.specs.pz_syntax.ClassView.{decl_view}
use Rattle.pz_classes.proofs.pz_classes_rules_proofs.FewMarks.{item_fits}
use Rattle.pz_check_duplicates.specs.devices.RepeatList.{of_own}
use Rattle.pz_check_duplicates.proofs.Steps.{flat_step}
use Rattle.pz_check_duplicates.proofs.repeats.least_of_each.Goals as goal

pub least_own-requires : goal.least_own-requires
least_own-requires c = item_fits c.args.decls.now c.requires c.loop-decl.decl-index c.decl-item.result c.loop-decl-test.true c.decl-item.is

pub loop-decl-preserved : goal.loop-decl-preserved
loop-decl-preserved c = flat_step (λ d. of_own (decl_view d)) _ c.decl-item.result _ _ _ _ _ c.loop-decl-test.true c.decl-item.is (omega arith) c.in_ok-least.ensures c.loop-decl.invariant
