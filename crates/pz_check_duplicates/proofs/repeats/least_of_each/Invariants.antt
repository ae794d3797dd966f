use Rattle.std.proofs.Common.{◌≡◌, drop}
use Rattle.std.specs.List.{flat_map}
use Rattle.pz_classes.specs.pz_syntax.ClassView.{decl_view}
use Rattle.pz_check_violations.specs.Least.{least_from}
use Rattle.pz_check_duplicates.specs.devices.RepeatList.{of_own}
use Rattle.pz_check_duplicates.proofs.repeats.least_of_each.Given as goal

abbrev pub invariant-loop-decl : goal.invariant-loop-decl
invariant-loop-decl l = least_from l.least (flat_map (λ d. of_own (decl_view d)) (drop l.decl-index l.decls)) ≡ least_from l.fn.before (flat_map (λ d. of_own (decl_view d)) l.decls)
