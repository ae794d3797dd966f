use Rattle.std.proofs.Common.{◌≡◌, take}
use Rattle.pz_copy.specs.Parcels.{plain_objects}
use Rattle.pz_copy.proofs.contents.copy_objects.Given as goal

abbrev pub invariant-loop-object : goal.invariant-loop-object
invariant-loop-object l = plain_objects l.copies.items ≡ plain_objects (take l.object-index l.objects)
