use Rattle.std.proofs.Common.{sym, subst}
use Rattle.pz_bind_rules.specs.pz_syntax.ClassView.{model_view}
use Rattle.pz_run_reading.specs.devices.Errors.{of_checker}
use Rattle.pz_run_reading.specs.devices.Reading.{IsViolationOf}
use Rattle.pz_run_reading.specs.Answers.{OnRefused}
use Rattle.pz_run_reading.proofs.Causes.{error_on, classes_cause, checker_cause}
use Rattle.pz_run_reading.proofs.reading.check_model.Goals as goal

pub returns-in_err-check-in-Ok-clause-refused : goal.returns-in_err-check-in-Ok-clause-refused
returns-in_err-check-in-Ok-clause-refused c =
    let tree = model_view c.args.model in
    let e = c.in_err-check-in-Ok.field-0.0 in
    error_on (OnRefused (IsViolationOf tree)) c.from_residual.result (of_checker e) c.from_residual.ensures.1 (checker_cause tree c.in-Ok.ensures.sound e c.in_err-check-in-Ok.ensures.refused)

pub returns-in-Err-clause-refused : goal.returns-in-Err-clause-refused
returns-in-Err-clause-refused c =
    let tree = model_view c.args.model in
    subst (OnRefused (IsViolationOf tree)) (sym c.from.ensures) (classes_cause tree c.in-Err.error c.in-Err.ensures.refused)
