use Rattle.std.proofs.Common.{◌≡◌, take}
use Rattle.pz_copy.specs.References.{references}
use Rattle.pz_copy.specs.devices.Gathering.{gathered}
use Rattle.pz_copy.proofs.listing.list_references.Given as goal

abbrev pub invariant-loop-value : goal.invariant-loop-value
invariant-loop-value l = l.listed.keys ≡ gathered l.initial.listed.keys (references (take l.value-index l.values))
