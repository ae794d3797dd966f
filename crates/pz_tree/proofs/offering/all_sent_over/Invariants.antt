use Rattle.std.proofs.Common.{◌≡◌, length}
use Rattle.std.specs.Vec.Iter.{into_iter_items, into_iter_len}
use Rattle.pz_tree.specs.devices.Wires.{IsSentOver}
use Rattle.pz_tree.proofs.Moved.{SoFar}
use Rattle.pz_tree.proofs.offering.all_sent_over.Given as goal

abbrev pub invariant-loop-send : goal.invariant-loop-send
invariant-loop-send l = record {
  counted : into_iter_len l.send-iterator ≡ length (into_iter_items l.send-iterator);
  over : SoFar (IsSentOver l.net l.process) l.fn.sends.items l.offers.items (into_iter_items l.send-iterator);
}
