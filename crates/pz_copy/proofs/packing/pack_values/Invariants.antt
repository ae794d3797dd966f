use Rattle.std.proofs.Common.{◌≡◌, map, take}
use Rattle.pz_copy.specs.References.{renumbered}
use Rattle.pz_copy.specs.Packing.{place_in}
use Rattle.pz_copy.proofs.packing.pack_values.Given as goal

abbrev pub invariant-loop-value : goal.invariant-loop-value
invariant-loop-value l = l.copies.items ≡ map (renumbered (place_in l.listed.keys)) (take l.value-index l.values)
