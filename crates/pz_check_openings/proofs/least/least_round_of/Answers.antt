use Rattle.std.proofs.Common.{Option}
use Rattle.std.proofs.lemmas.Result.{IfOk-weaker}
use Rattle.pz_classes.specs.pz_check_violations.declared.violation.Violation.{Violation}
use Rattle.pz_classes.specs.pz_check_violations.Least.{LeastOf}
use Rattle.pz_classes.specs.pz_syntax.ClassView.{model_view}
use Rattle.pz_classes.specs.CheckedView.{checked_model}
use Rattle.pz_classes_openings.specs.OpeningRules.{BreaksC23}
use Rattle.pz_check_openings.proofs.Marking.{rounds_told}
use Rattle.pz_check_openings.proofs.least.least_round_of.Goals as goal

pub returns : goal.returns
returns c =
    IfOk-weaker c.round_in_any.result _ (LeastOf (BreaksC23 (checked_model c.args.checked.now))) (λ (found : Option Violation) is.
    rounds_told (checked_model c.args.checked.now) (model_view c.model.result.now) c.args.outlines.now c.in_ok-suspects.suspects c.as_slice-2.result.now c.as_slice-3.result.now c.in_ok-marks.marks.items c.as_slice-4.result.now
    c.model.ensures.is c.requires c.in_ok-suspects.ensures c.as_slice-2.ensures c.in_ok-marks.ensures c.as_slice-3.ensures c.as_slice-4.ensures.value c.model.ensures.sound found is) c.round_in_any.ensures
