use Rattle.std.proofs.Common.{◌≡◌}
use Rattle.pz_run_reading.specs.declared.read_error.ReadModelError.TheVariants.{NoMemory}
use Rattle.pz_run_reading.proofs.Causes.{error_on}
use Rattle.pz_run_reading.proofs.flattening.measure.Goals as goal

pub returns-in_err-flat-clause-only : goal.returns-in_err-flat-clause-only
returns-in_err-flat-clause-only c = λ m is.
    error_on (λ e. e ≡ NoMemory) c.from_residual.result c.in_err-flat.field-0.0 c.from_residual.ensures.1 (c.in_err-flat.ensures.only m is)
