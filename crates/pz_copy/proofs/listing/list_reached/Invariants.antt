use Rattle.std.proofs.Common.{suc, ◌-◌, length}
use Rattle.pz_copy.specs.devices.Gathering.{IsGathered}
use Rattle.pz_copy.proofs.listing.list_reached.Given as goal

abbrev pub invariant-loop-next : goal.invariant-loop-next
invariant-loop-next l = IsGathered l.state.held l.values l.next l.listed.keys

abbrev pub decreases-loop-next : goal.decreases-loop-next
decreases-loop-next l = suc (length l.state.held.objects) - l.next
