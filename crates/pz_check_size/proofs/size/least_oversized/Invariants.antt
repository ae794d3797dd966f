use Rattle.std.proofs.Common.{◌≡◌, suc, None, map, drop}
use Rattle.pz_classes.specs.pz_syntax.ClassView.{decl_view, model_view}
use Rattle.pz_check_violations.specs.Least.{least_from}
use Rattle.pz_check_size.specs.devices.Oversized.{oversized_among}
use Rattle.pz_check_size.proofs.size.least_oversized.Given as goal

abbrev pub invariant-loop-decl : goal.invariant-loop-decl
invariant-loop-decl l = record {
  counted : l.number ≡ l.decl-index;
  found : least_from l.least (oversized_among l.totals (suc l.number) (map decl_view (drop l.decl-index l.decl-items))) ≡ least_from None (oversized_among l.totals 1 (model_view l.model).decls);
}
