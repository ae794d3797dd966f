use Rattle.std.proofs.Common.{◌≡◌, ◌++◌, ◌∷◌, take}
use Rattle.std.specs.List.{flat_map}
use Rattle.pz_copy.specs.Parcels.{plain_objects}
use Rattle.pz_copy.specs.ParcelText.{object_texts}
use Rattle.pz_copy.proofs.text.put_objects.Given as goal

abbrev pub invariant-loop-place : goal.invariant-loop-place
invariant-loop-place l = l.out.items ≡ l.initial.out.items ++ flat_map (λ u. 59 ∷ u) (object_texts l.names 1 (plain_objects (take l.place l.rest)))
