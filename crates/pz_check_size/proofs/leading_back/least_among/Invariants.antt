use Rattle.std.proofs.Common.{◌≡◌, None, drop}
use Rattle.pz_check_violations.specs.Least.{least_from}
use Rattle.pz_check_size.specs.devices.LeadingBack.{back_among}
use Rattle.pz_check_size.proofs.leading_back.least_among.Given as goal

abbrev pub invariant-loop-class : goal.invariant-loop-class
invariant-loop-class l = least_from l.least (back_among l.numbers l.class (drop l.class l.nodes)) ≡ least_from None (back_among l.numbers 0 l.nodes)
