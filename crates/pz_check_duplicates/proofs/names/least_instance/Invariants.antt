use Rattle.std.proofs.Common.{◌≡◌, map, take}
use Rattle.pz_classes.specs.pz_syntax.declared.clusters.Instance.{Instance}
use Rattle.pz_check_duplicates.specs.devices.Names.{id_of}
use Rattle.pz_check_duplicates.proofs.names.least_instance.Given as goal

abbrev pub invariant-loop-instance : goal.invariant-loop-instance
invariant-loop-instance l = map id_of l.names ≡ map (λ (i : Instance). i.name) (take l.instance-index l.instances)
