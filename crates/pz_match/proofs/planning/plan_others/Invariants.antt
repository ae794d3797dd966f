use Rattle.std.proofs.Common.{◌≡◌, ◌++◌, None, replicate}
use Rattle.pz_match.proofs.planning.plan_others.Given as goal

abbrev pub invariant-loop : goal.invariant-loop
invariant-loop l = l.plan.items ≡ l.initial.plan.items ++ replicate l.counter None
