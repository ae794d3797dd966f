use Rattle.std.proofs.Common.{◌≡◌, drop}
use Rattle.std.specs.List.{flat_map}
use Rattle.pz_classes.specs.pz_check_violations.Least.{least_from}
use Rattle.pz_check_instances.specs.devices.NameSets.{names_in}
use Rattle.pz_check_instances.specs.devices.Given.{lacking}
use Rattle.pz_check_instances.proofs.given.least_of_class.Given as goal

abbrev pub invariant-loop-instance : goal.invariant-loop-instance
invariant-loop-instance l = least_from l.least (flat_map (λ i. lacking (names_in l.wanted) i.now) (drop l.instance-index l.instances)) ≡ least_from l.fn.before (flat_map (λ i. lacking (names_in l.wanted) i.now) l.instances)
