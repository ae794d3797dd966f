use Rattle.pz_trace.proofs.Told.{no_header_without, told_first}
use Rattle.pz_trace.proofs.forms.form_told.Goals as goal

pub returns-in_err-line : goal.returns-in_err-line
returns-in_err-line c = rw c.from_residual.ensures (λ f has. no_header_without c.args.text.now c.in_err-line.ensures f has)

pub returns : goal.returns
returns c =
    let x = c.in_ok-line.ensures in
    told_first c.read_header.result c.args.text.now c.in_ok-line.line.now x.1.0 x.0 x.1.1 c.read_header.ensures
