use Rattle.std.proofs.Common.{◌≡◌, length}
use Rattle.pz_check_calls.specs.devices.Raising.{IsReached}
use Rattle.pz_check_calls.proofs.counting.raise_in_order.Given as goal

abbrev pub invariant-loop-method : goal.invariant-loop-method
invariant-loop-method l = record { sized : length l.totals.items ≡ length l.methods; reached : IsReached l.methods l.fn.totals.items → IsReached l.methods l.totals.items }
