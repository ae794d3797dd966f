use Rattle.std.proofs.Common.{◌≡◌, ℕ, List, drop}
use Rattle.std.specs.Option.{option_or}
use Rattle.pz_classes_code.specs.NumberIn.{number_in}
use Rattle.pz_check_instances.specs.devices.Ends.{place_named}
use Rattle.pz_check_instances.proofs.needs.places_of.Given as goal

abbrev pub invariant-loop-instance : goal.invariant-loop-instance
invariant-loop-instance l = record {
  counted : l.place ≡ l.instance-index;
  found : (q : List ℕ) → option_or (number_in l.places q) (place_named l.place (drop l.instance-index l.instances) q) ≡ place_named 0 l.instances q;
}
