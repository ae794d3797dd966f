use Rattle.pz_check_calls.specs.devices.Raising.{Raises}
use Rattle.pz_check_calls.proofs.counting.raise_all.Given as goal

abbrev pub invariant-loop-method : goal.invariant-loop-method
invariant-loop-method l = Raises l.methods l.fn.totals.items l.totals.items l.grew l.method
