use Rattle.std.proofs.Common.{◌≡◌, take}
use Rattle.pz_copy.specs.Unpacking.{shifted_values}
use Rattle.pz_copy.proofs.unpacking.shift_values.Given as goal

abbrev pub invariant-loop-value : goal.invariant-loop-value
invariant-loop-value l = l.copies.items ≡ shifted_values l.count (take l.value-index l.values)
