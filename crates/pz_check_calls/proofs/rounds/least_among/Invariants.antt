use Rattle.std.proofs.Common.{◌≡◌, None, drop}
use Rattle.pz_check_violations.specs.Least.{least_from}
use Rattle.pz_check_calls.specs.devices.LeadingBack.{back_among}
use Rattle.pz_check_calls.proofs.rounds.least_among.Given as goal

abbrev pub invariant-loop-number : goal.invariant-loop-number
invariant-loop-number l = least_from l.least (back_among l.numbers l.number (drop l.number l.methods)) ≡ least_from None (back_among l.numbers 0 l.methods)
