use Rattle.std.proofs.Common.{◌≡◌, length, take}
use Rattle.pz_classes_rules.specs.Members.{grouped}
use Rattle.pz_classes.proofs.methods.count_names.Given as goal

abbrev pub invariant-loop-group : goal.invariant-loop-group
invariant-loop-group l = l.count ≡ length (grouped (take l.group-index l.groups))
