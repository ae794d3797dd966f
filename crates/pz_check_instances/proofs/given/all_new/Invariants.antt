use Rattle.std.proofs.Common.{◌≡◌, [], map, drop}
use Rattle.pz_check_instances.specs.devices.NameSets.{names_in}
use Rattle.pz_check_instances.specs.devices.Given as spec
use Rattle.pz_check_instances.proofs.given.all_new.Given as goal

abbrev pub invariant-loop-item : goal.invariant-loop-item
invariant-loop-item l = spec.all_new (names_in l.wanted) (names_in l.seen) (map (λ g. g.name.name) (drop l.item-index l.given)) ≡ spec.all_new (names_in l.wanted) [] (map (λ g. g.name.name) l.given)
