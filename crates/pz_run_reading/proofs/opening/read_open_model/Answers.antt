use Rattle.std.proofs.Common.{◌≡◌, sym, subst}
use Rattle.pz_bind.specs.pz_classes.CheckedView.{checked_model}
use Rattle.pz_bind.specs.pz_classes.declared.checked.Checked.{Checked}
use Rattle.pz_classes_openings.specs.OpeningRules.{Opens}
use Rattle.pz_run_reading.specs.Openings.{IsRefusedToOpen}
use Rattle.pz_run_reading.specs.Answers.{OnRefused}
use Rattle.pz_run_reading.proofs.Causes.{error_on, wanting_on}
use Rattle.pz_run_reading.proofs.Opened.{to_open_cause, refused_at_once, open_cause}
use Rattle.pz_run_reading.proofs.opening.read_open_model.Goals as goal

pub returns-in_err-checked-clause-only : goal.returns-in_err-checked-clause-only
returns-in_err-checked-clause-only c = λ m is.
    wanting_on (λ (x : Checked). checked_model x ≡ m) c.from_residual.result c.in_err-checked.field-0.0 c.from_residual.ensures.1 (c.in_err-checked.ensures.only m is.is_model)

pub returns-in_err-checked-clause-refused : goal.returns-in_err-checked-clause-refused
returns-in_err-checked-clause-refused c =
    let e = c.in_err-checked.field-0.0 in
    error_on (OnRefused (IsRefusedToOpen c.args.text.now)) c.from_residual.result e c.from_residual.ensures.1 (refused_at_once c.args.text.now e c.in_err-checked.ensures.refused)

pub returns-in-Ok-clause-found : goal.returns-in-Ok-clause-found
returns-in-Ok-clause-found c = record { is_model = c.in_ok-checked.ensures.found; opens = c.in-Ok.ensures.opens }

pub returns-in-Ok-clause-only : goal.returns-in-Ok-clause-only
returns-in-Ok-clause-only c = λ m is. c.in_ok-checked.ensures.only m is.is_model

pub returns-in-Err-clause-only : goal.returns-in-Err-clause-only
returns-in-Err-clause-only c = λ m is.
    open_cause (checked_model c.in_ok-checked.checked) (subst Opens (sym (c.in_ok-checked.ensures.only m is.is_model)) is.opens) c.in-Err.error c.in-Err.ensures.refused

pub returns-in-Err-clause-refused : goal.returns-in-Err-clause-refused
returns-in-Err-clause-refused c =
    to_open_cause c.args.text.now (checked_model c.in_ok-checked.checked) c.in_ok-checked.ensures.found c.in-Err.error c.in-Err.ensures.refused
