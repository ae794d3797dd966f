use Rattle.std.proofs.Common.{◌≡◌, map, take}
use Rattle.pz_check_openings.specs.devices.Settling.{value_of}
use Rattle.pz_check_openings.specs.devices.Suspects.{kept, is_suspect}
use Rattle.pz_check_openings.proofs.suspects.suspects_by.Given as goal

abbrev pub invariant-loop-method : goal.invariant-loop-method
invariant-loop-method l = l.suspects ≡ map (kept (is_suspect (value_of l.names l.ranks))) (take l.method-index l.methods)
