use Rattle.std.proofs.Common.{◌≡◌, drop}
use Rattle.pz_classes.specs.pz_classes_rules.Members.{spelled, grouped}
use Rattle.pz_check_instances.specs.devices.NameSets.{names_in, with_all}
use Rattle.pz_check_instances.proofs.name_set.NameSet.add_groups.Given as goal

abbrev pub invariant-loop-group : goal.invariant-loop-group
invariant-loop-group l = with_all (names_in l.self) (spelled (grouped (drop l.group-index l.groups))) ≡ with_all (names_in l.initial.self) (spelled (grouped l.groups))
