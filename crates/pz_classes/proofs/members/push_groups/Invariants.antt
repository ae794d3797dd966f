use Rattle.std.proofs.Common.{◌≡◌, ◌++◌, take}
use Rattle.pz_classes_rules.specs.Members.{spelled, grouped}
use Rattle.pz_classes.proofs.members.push_groups.Given as goal

abbrev pub invariant-loop-group : goal.invariant-loop-group
invariant-loop-group l = l.names ≡ l.initial.names ++ spelled (grouped (take l.group-index l.groups))
