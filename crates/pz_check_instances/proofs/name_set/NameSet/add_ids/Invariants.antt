use Rattle.std.proofs.Common.{◌≡◌, drop}
use Rattle.pz_classes.specs.pz_classes_rules.Members.{spelled}
use Rattle.pz_check_instances.specs.devices.NameSets.{names_in, with_all}
use Rattle.pz_check_instances.proofs.name_set.NameSet.add_ids.Given as goal

abbrev pub invariant-loop-id : goal.invariant-loop-id
invariant-loop-id l = with_all (names_in l.self) (spelled (drop l.id-index l.ids)) ≡ with_all (names_in l.initial.self) (spelled l.ids)
