use Rattle.std.proofs.Common.{◌≡◌, drop}
use Rattle.std.specs.List.{flat_map}
use Rattle.pz_classes.specs.pz_check_violations.Least.{least_from}
use Rattle.pz_check_instances.specs.devices.NameSets.{names_in}
use Rattle.pz_check_instances.specs.devices.Ends.{absent}
use Rattle.pz_check_instances.specs.devices.Search.{wanted}
use Rattle.pz_check_instances.proofs.channel_ends.least_of_class.Given as goal

abbrev pub invariant-loop-one : goal.invariant-loop-one
invariant-loop-one l = least_from l.least (flat_map (λ a. absent (names_in l.ports) (wanted a)) (drop l.one-index l.asked)) ≡ least_from l.fn.before (flat_map (λ a. absent (names_in l.ports) (wanted a)) l.asked)
