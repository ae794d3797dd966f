use Rattle.std.proofs.Common.{rules}
use Rattle.pz_trace.proofs.Headers.{no_header}
use Rattle.pz_trace.proofs.forms.read_header.Goals as goal

pub returns-in_err-units : goal.returns-in_err-units
returns-in_err-units c = rw c.from_residual.ensures (no_header c.args.line.now (λ e. search rules) (λ e. search rules) c.in_err-units.ensures)
