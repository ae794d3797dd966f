use Rattle.std.proofs.Common.{◌≡◌, sym, subst}
use Rattle.pz_classes.specs.CheckedView.{checked_model}
use Rattle.pz_lexer.specs.Kept.{AreKept}
use Rattle.pz_run_reading.specs.Openings.{IsRefusedToOpen}
use Rattle.pz_run_reading.specs.Answers.{OnRefused}
use Rattle.pz_run_reading.specs.devices.Errors.{of_lexer}
use Rattle.pz_run_reading.specs.declared.read_error.ReadModelError.TheVariants.{NoMemory}
use Rattle.pz_run_reading.proofs.Causes.{error_on}
use Rattle.pz_run_formatting.proofs.Found.{no_pieces, wanting}
use Rattle.pz_run_formatting.proofs.formatting.layout_text.Goals as goal

pub returns-in_err-checked-clause-only : goal.returns-in_err-checked-clause-only
returns-in_err-checked-clause-only c = λ m is.
    error_on (λ e. e ≡ NoMemory) c.from_residual.result c.in_err-checked.field-0.0 c.from_residual.ensures.1 (c.in_err-checked.ensures.only m is)

pub returns-in_err-pieces-clause-only : goal.returns-in_err-pieces-clause-only
returns-in_err-pieces-clause-only c = λ m is.
    let e = c.in_err-pieces.field-0.0 in
    error_on (λ e. e ≡ NoMemory) c.from_residual-in_err-pieces.result (of_lexer e) c.from_residual-in_err-pieces.ensures.1
    (wanting c.args.text.now e c.in_err-pieces.ensures.refusal c.one_answer.ensures.one_list c.one_answer.ensures.not_both m is)

pub returns-in_err-pieces-clause-refused : goal.returns-in_err-pieces-clause-refused
returns-in_err-pieces-clause-refused c =
    let e = c.in_err-pieces.field-0.0 in
    error_on (OnRefused (IsRefusedToOpen c.args.text.now)) c.from_residual-in_err-pieces.result (of_lexer e) c.from_residual-in_err-pieces.ensures.1
    (no_pieces c.args.text.now e c.in_err-pieces.ensures.refusal)

pub returns-in-Ok-clause-found : goal.returns-in-Ok-clause-found
returns-in-Ok-clause-found c = record {
  model = checked_model c.in_ok-checked.checked;
  is_model = c.in_ok-checked.ensures.found;
  pieces = c.as_slice.result.now;
  are_kept = subst (AreKept c.args.text.now) (sym c.as_slice.ensures) c.in_ok-pieces.ensures.kept;
  laid_out = c.in-Ok.ensures.layout;
}
