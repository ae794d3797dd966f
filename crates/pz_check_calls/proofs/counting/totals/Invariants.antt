use Rattle.std.proofs.Common.{◌≡◌, length}
use Rattle.pz_check_calls.specs.devices.Raising.{IsReached, room}
use Rattle.pz_check_calls.proofs.counting.totals.Given as goal

abbrev pub invariant-loop : goal.invariant-loop
invariant-loop l = record { sized : length l.totals.items ≡ length l.methods; reached : IsReached l.methods l.totals.items }

abbrev pub decreases-loop : goal.decreases-loop
decreases-loop l = room l.totals.items
