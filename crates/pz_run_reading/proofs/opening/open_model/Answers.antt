use Rattle.std.proofs.Common.{sym, subst}
use Rattle.pz_bind.specs.pz_classes.CheckedView.{checked_model}
use Rattle.pz_run_reading.specs.Openings.{IsOpeningRefusal}
use Rattle.pz_run_reading.specs.Answers.{OnRefused}
use Rattle.pz_run_reading.proofs.Opened.{opening_cause}
use Rattle.pz_run_reading.proofs.opening.open_model.Goals as goal

pub returns-in-Err-clause-refused : goal.returns-in-Err-clause-refused
returns-in-Err-clause-refused c =
    let m = checked_model c.args.checked.now in
    subst (OnRefused (IsOpeningRefusal m)) (sym c.from.ensures) (opening_cause m c.in-Err.error c.in-Err.ensures.refused)
