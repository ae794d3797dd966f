use Rattle.std.proofs.Common.{◌≡◌, take}
use Rattle.pz_check_openings.specs.devices.Settling.{value_of}
use Rattle.pz_check_openings.specs.devices.Heavy.{are_reached}
use Rattle.pz_check_openings.proofs.heavy.are_reached.Given as goal

abbrev pub invariant-loop-call : goal.invariant-loop-call
invariant-loop-call l = l.all ≡ are_reached (value_of l.names l.marks) (take l.call-index l.calls)
