use Rattle.std.proofs.Common.{◌≡◌, drop}
use Rattle.pz_check_violations.specs.Least.{least_from}
use Rattle.pz_check_size.specs.devices.LeadingBack.{back_in}
use Rattle.pz_check_size.proofs.leading_back.least_in.Given as goal

abbrev pub invariant-loop-instance : goal.invariant-loop-instance
invariant-loop-instance l = least_from l.least (back_in l.numbers l.number (drop l.instance-index l.held)) ≡ least_from l.fn.before (back_in l.numbers l.number l.held)
