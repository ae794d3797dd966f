use Rattle.std.proofs.Common.{◌≡◌, None, drop}
use Rattle.std.specs.List.{flat_map}
use Rattle.pz_classes.specs.pz_syntax.ClassView.{decl_view}
use Rattle.pz_check_violations.specs.Least.{least_from}
use Rattle.pz_check_duplicates.specs.devices.EndList.{of_decl}
use Rattle.pz_check_duplicates.proofs.ends.least_double_end.Given as goal

abbrev pub invariant-loop-decl : goal.invariant-loop-decl
invariant-loop-decl l = least_from l.least (flat_map (λ d. of_decl (decl_view d)) (drop l.decl-index l.decl-items)) ≡ least_from None (flat_map (λ d. of_decl (decl_view d)) l.decl-items)
