use Rattle.std.proofs.Common.{Option}
use Rattle.std.proofs.lemmas.Result.{IfOk-weaker}
use Rattle.pz_classes.specs.pz_check_violations.declared.violation.Violation.{Violation}
use Rattle.pz_classes.specs.pz_check_violations.Least.{LeastOf}
use Rattle.pz_classes.specs.pz_syntax.ClassView.{model_view}
use Rattle.pz_classes.specs.CheckedView.{checked_model}
use Rattle.pz_classes_openings.specs.OpeningRules.{BreaksC24}
use Rattle.pz_check_openings.proofs.Sizing.{sizes_told}
use Rattle.pz_check_openings.proofs.least.least_size_of.Goals as goal

pub returns : goal.returns
returns c =
    IfOk-weaker c.large_in_any.result _ (LeastOf (BreaksC24 (checked_model c.args.checked.now))) (λ (found : Option Violation) is.
    sizes_told (checked_model c.args.checked.now) (model_view c.model.result.now) c.args.outlines.now c.in_ok-heavy.heavy c.as_slice-3.result.now c.as_slice-4.result.now c.in_ok-marks.marks.items c.as_slice-5.result.now
    c.model.ensures.is c.requires c.in_ok-heavy.ensures c.as_slice-3.ensures c.in_ok-marks.ensures c.as_slice-4.ensures c.as_slice-5.ensures.value c.model.ensures.sound found is) c.large_in_any.ensures
