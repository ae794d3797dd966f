use Rattle.std.proofs.Common.{◌≡◌, ◌+◌, min, take}
use Rattle.std.specs.List.{sum_by}
use Rattle.pz_check_calls.specs.Calls.{total_in}
use Rattle.pz_check_calls.proofs.counting.total_with.Given as goal

abbrev pub invariant-loop-call : goal.invariant-loop-call
invariant-loop-call l = l.total ≡ min (l.statements + sum_by (λ x. total_in l.totals x.method) (take l.call-index l.calls)) 1000001
