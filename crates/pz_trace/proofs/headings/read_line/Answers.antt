use Rattle.pz_trace.proofs.Cut.{no_line, line_alone, line_goes_on}
use Rattle.pz_trace.proofs.headings.read_line.Goals as goal

pub returns-in_err-first : goal.returns-in_err-first
returns-in_err-first c = rw c.from_residual.ensures (no_line c.args.line.now c.in_err-first.ensures)

pub returns-then-first-line : goal.returns-then-first-line
returns-then-first-line c = let first = c.in_ok-first.ensures in line_goes_on c.in_ok-first.first.now first.1.0 c.args.line.now first.0 first.1.1 c.if-first-line.true

pub returns : goal.returns
returns c = let first = c.in_ok-first.ensures in (line_alone c.in_ok-first.first.now first.1.0 c.args.line.now first.0 first.1.1 c.if-first-line.false, c.heading_of.ensures)
