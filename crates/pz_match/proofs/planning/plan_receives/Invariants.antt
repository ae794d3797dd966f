use Rattle.std.proofs.Common.{◌≡◌, ◌++◌, take}
use Rattle.std.specs.Prelude.{map}
use Rattle.pz_match.specs.devices.Staying.{receive_stay}
use Rattle.pz_match.proofs.planning.plan_receives.Given as goal

abbrev pub invariant-loop-receive : goal.invariant-loop-receive
invariant-loop-receive l = l.plan.items ≡ l.initial.plan.items ++ map receive_stay (take l.receive-index l.receives)
