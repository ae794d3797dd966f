use Rattle.std.proofs.Common.{◌≡◌, drop}
use Rattle.pz_check_violations.specs.Least.{least_from}
use Rattle.pz_check_calls.specs.devices.LeadingBack.{back_in}
use Rattle.pz_check_calls.proofs.rounds.least_in.Given as goal

abbrev pub invariant-loop-call : goal.invariant-loop-call
invariant-loop-call l = least_from l.least (back_in l.numbers l.number (drop l.call-index l.calls)) ≡ least_from l.fn.before (back_in l.numbers l.number l.calls)
