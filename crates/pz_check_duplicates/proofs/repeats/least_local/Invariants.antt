use Rattle.std.proofs.Common.{◌≡◌, drop}
use Rattle.pz_check_violations.specs.Least.{least_from}
use Rattle.pz_check_duplicates.specs.devices.RepeatList.{of_parts}
use Rattle.pz_check_duplicates.proofs.repeats.least_local.Given as goal

abbrev pub invariant-loop-part : goal.invariant-loop-part
invariant-loop-part l = least_from l.least (of_parts (drop l.part-index l.part-items)) ≡ least_from l.fn.before (of_parts l.part-items)
