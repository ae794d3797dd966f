use Rattle.std.proofs.Common.{◌≡◌, suc, None, map, drop}
use Rattle.pz_classes_code.specs.pz_syntax.ClassView.{decl_view, model_view}
use Rattle.pz_classes_rules.specs.devices.ViolationList.{among, violations}
use Rattle.pz_check_violations.specs.Least.{least_from}
use Rattle.pz_classes.proofs.checking.least_violation.Given as goal

abbrev pub invariant-loop-decl : goal.invariant-loop-decl
invariant-loop-decl l = record {
  counted : l.number ≡ l.decl-index;
  found : least_from l.least (among (model_view l.model) (suc l.number) (map decl_view (drop l.decl-index l.decl-items))) ≡ least_from None (violations (model_view l.model));
}
