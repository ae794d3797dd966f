use Rattle.std.proofs.Common.{length}
use Rattle.pz_check_components.specs.devices.IsWalk.{AreJoined}
use Rattle.pz_check_components.proofs.walk.join.Given as goal

abbrev pub invariant-loop-group : goal.invariant-loop-group
invariant-loop-group l = AreJoined l.place l.initial.groups.items l.groups.items

abbrev pub decreases-loop-group : goal.decreases-loop-group
decreases-loop-group l = length l.groups.items
