use Rattle.std.proofs.Common.{◌≡◌, drop}
use Rattle.pz_classes.specs.pz_syntax.ClassView.{model_view}
use Rattle.pz_check_violations.specs.Least.{least_from}
use Rattle.pz_check_duplicates.specs.devices.RepeatList.{of_visits}
use Rattle.pz_check_duplicates.proofs.Openings.{Walks}
use Rattle.pz_check_duplicates.proofs.walk.least_inherited.Given as goal

abbrev pub invariant-loop-visit : goal.invariant-loop-visit
invariant-loop-visit l = record {
  walks : Walks (model_view l.model) l.sort (drop l.visit-index l.visits) l.known;
  found : least_from l.least (of_visits (model_view l.model) l.sort (drop l.visit-index l.visits)) ≡ least_from l.fn.before (of_visits (model_view l.model) l.sort l.visits);
}
