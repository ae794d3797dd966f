use Rattle.std.proofs.Common.{◌≡◌, ◌++◌, take}
use Rattle.std.specs.Prelude.{map}
use Rattle.pz_match.specs.devices.Staying.{send_stay}
use Rattle.pz_match.proofs.planning.plan_sends.Given as goal

abbrev pub invariant-loop-send : goal.invariant-loop-send
invariant-loop-send l = l.plan.items ≡ l.initial.plan.items ++ map (send_stay l.receives) (take l.send-index l.sends)
