use Rattle.std.proofs.Common.{◌≡◌, ◌<◌, ◌^◌, map, take, length}
use Rattle.std.specs.Prelude.{All}
use Rattle.pz_state.specs.States.{object}
use Rattle.pz_copy.specs.References.{renumbered_object}
use Rattle.pz_copy.specs.Packing.{place_in}
use Rattle.pz_copy.specs.Parcels.{plain_objects}
use Rattle.pz_copy.proofs.packing.pack_objects.Given as goal

abbrev pub invariant-loop-place : goal.invariant-loop-place
invariant-loop-place l = record {
  objects : plain_objects l.objects.items ≡ map (λ r. renumbered_object (place_in l.listed.keys) (object l.state.held r)) (take l.place l.listed.keys);
  sizes : All (λ o. length o.items < 2 ^ 32) (plain_objects l.objects.items);
}
