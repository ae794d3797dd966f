use Rattle.std.proofs.Common.{◌≡◌, drop}
use Rattle.std.specs.List.{flat_map}
use Rattle.pz_check_violations.specs.Least.{least_from}
use Rattle.pz_check_duplicates.specs.devices.EndList.{outers}
use Rattle.pz_check_duplicates.proofs.ends.least_outers.Given as goal

abbrev pub invariant-loop-channel : goal.invariant-loop-channel
invariant-loop-channel l = least_from l.least (flat_map outers (drop l.channel-index l.channels)) ≡ least_from l.fn.before (flat_map outers l.channels)
