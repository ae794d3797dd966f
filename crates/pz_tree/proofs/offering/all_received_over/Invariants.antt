use Rattle.std.proofs.Common.{◌≡◌, length}
use Rattle.std.specs.Vec.Iter.{into_iter_items, into_iter_len}
use Rattle.pz_tree.specs.devices.Wires.{IsReceivedOver}
use Rattle.pz_tree.proofs.Moved.{SoFar}
use Rattle.pz_tree.proofs.offering.all_received_over.Given as goal

abbrev pub invariant-loop-receive : goal.invariant-loop-receive
invariant-loop-receive l = record {
  counted : into_iter_len l.receive-iterator ≡ length (into_iter_items l.receive-iterator);
  over : SoFar (IsReceivedOver l.net l.process) l.fn.receives.items l.offers.items (into_iter_items l.receive-iterator);
}
