use Rattle.std.proofs.Common.{◌≡◌, ℕ, List, map, drop}
use Rattle.std.specs.Option.{option_or}
use Rattle.pz_bind_rules.specs.pz_classes_code.NumberIn.{number_in}
use Rattle.pz_bind_rules.specs.pz_classes_code.Places.{place_from}
use Rattle.pz_bind_rules.specs.devices.Layouts.{instance_number}
use Rattle.pz_bind.proofs.naming.number_instances.Given as goal

abbrev pub invariant-loop-instance : goal.invariant-loop-instance
invariant-loop-instance l = record {
  counted : l.number ≡ l.instance-index;
  placed : (q : List ℕ) → option_or (number_in l.numbers q) (place_from l.number (map (λ x. x.name.name) (drop l.instance-index l.instances)) q) ≡ instance_number l.instances q;
}
