use Rattle.pz_trace.proofs.Headers.{told_ends}
use Rattle.pz_trace.proofs.forms.units_told.Goals as goal

pub returns-then-end-told : goal.returns-then-end-told
returns-then-end-told c = λ units are is. told_ends c.args.told.now c.in_ok-end.end units c.in_ok-end.ensures c.if-end-told.true is
