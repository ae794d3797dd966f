use Rattle.std.proofs.Common.{◌≡◌, map, take}
use Rattle.pz_check_openings.specs.devices.Settling.{value_of}
use Rattle.pz_check_openings.specs.devices.Suspects.{kept}
use Rattle.pz_check_openings.specs.devices.Heavy.{is_kept_if}
use Rattle.pz_check_openings.proofs.heavy.heavy_by.Given as goal

abbrev pub invariant-loop-method : goal.invariant-loop-method
invariant-loop-method l = l.heavy ≡ map (kept (is_kept_if l.sure (value_of l.names l.bounds) (value_of l.names l.marks))) (take l.method-index l.methods)
