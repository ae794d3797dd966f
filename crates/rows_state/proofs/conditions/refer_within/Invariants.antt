use Rattle.std.proofs.Common.{take, All}
use Rattle.pz_copy.specs.pz_state.References.{RefersWithin}
use Rattle.rows_state.proofs.conditions.refer_within.Given as goal

abbrev pub invariant-loop-value : goal.invariant-loop-value
invariant-loop-value l = All (RefersWithin l.count) (take l.value-index l.values)
