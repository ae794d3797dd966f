use Rattle.std.proofs.Common.{◌++◌}
use Rattle.std.specs.Fmt.{decimal}
use Rattle.pz_trace.specs.Lines.{newline}
use Rattle.pz_trace.proofs.Headers.{told_behind}
use Rattle.pz_trace.proofs.forms.third_told.Goals as goal

pub returns-in_err-told : goal.returns-in_err-told
returns-in_err-told c = rw c.from_residual.ensures (λ units are is. c.in_err-told.ensures (decimal units ++ newline) is)

pub returns : goal.returns
returns c = told_behind c.units_told.result c.args.line.now c.in_ok-told.told.now c.in_ok-told.ensures c.units_told.ensures
