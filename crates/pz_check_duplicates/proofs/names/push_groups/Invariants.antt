use Rattle.std.proofs.Common.{◌≡◌, ◌++◌, map, take}
use Rattle.pz_classes.specs.pz_classes_rules.Members.{grouped}
use Rattle.pz_check_duplicates.specs.devices.Names.{id_of}
use Rattle.pz_check_duplicates.proofs.names.push_groups.Given as goal

abbrev pub invariant-loop-group : goal.invariant-loop-group
invariant-loop-group l = map id_of l.things ≡ map id_of l.initial.things ++ grouped (take l.group-index l.groups)
