use Rattle.std.proofs.Common.{◌≡◌, take}
use Rattle.pz_check_calls.specs.Calls.{targets_of}
use Rattle.pz_check_calls.proofs.rounds.targets_of.Given as goal

abbrev pub invariant-loop-call : goal.invariant-loop-call
invariant-loop-call l = l.targets ≡ targets_of (take l.call-index l.calls)
