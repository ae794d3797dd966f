use Rattle.std.proofs.Common.{◌≡◌}
use Rattle.pz_bind.specs.pz_classes.CheckedView.{checked_model}
use Rattle.pz_run_reading.specs.declared.flat_model.FlatModel.{FlatModel}
use Rattle.pz_run_reading.proofs.Causes.{wanting_on}
use Rattle.pz_run_reading.proofs.flattening.read_net.Goals as goal

pub returns-in_err-checked-clause-only : goal.returns-in_err-checked-clause-only
returns-in_err-checked-clause-only c = λ m is.
    wanting_on (λ (x : FlatModel). checked_model x.checked ≡ m) c.from_residual.result c.in_err-checked.field-0.0 c.from_residual.ensures.1 (c.in_err-checked.ensures.only m is)
