use Rattle.std.proofs.Common.{◌≡◌, take}
use Rattle.pz_check_openings.specs.devices.Settling.{value_of}
use Rattle.pz_check_openings.specs.devices.Suspects.{highest}
use Rattle.pz_check_openings.proofs.suspects.highest.Given as goal

abbrev pub invariant-loop-call : goal.invariant-loop-call
invariant-loop-call l = l.highest ≡ highest (value_of l.names l.ranks) (take l.call-index l.calls)
