use Rattle.std.proofs.Common.{◌≡◌, ◌++◌, length}
use Rattle.std.specs.List.{All, filter_map}
use Rattle.std.specs.Vec.Iter.{into_iter_items, into_iter_len}
use Rattle.pz_classes_code.specs.pz_syntax.Classes.{ModelTree}
use Rattle.pz_term_enabled.specs.devices.Adding.{sender_of}
use Rattle.pz_term_enabled.specs.devices.Seen.{Wired, HasPort, wire_at}
use Rattle.pz_term_enabled.proofs.adding.add_senders.Given as goal

abbrev pub invariant-loop-sending : goal.invariant-loop-sending
invariant-loop-sending l = record {
  counted : into_iter_len l.sending-iterator ≡ length (into_iter_items l.sending-iterator);
  left : (m : ModelTree) (wired : Wired m l.net l.process) → All (λ x. HasPort wired x.port) l.fn.sends.items → All (λ x. HasPort wired x.port) (into_iter_items l.sending-iterator);
  added : (m : ModelTree) (wired : Wired m l.net l.process) → All (λ x. HasPort wired x.port) l.fn.sends.items
      → l.senders.items ++ filter_map (sender_of (wire_at wired) l.process) (into_iter_items l.sending-iterator) ≡ l.initial.senders.items ++ filter_map (sender_of (wire_at wired) l.process) l.fn.sends.items;
}
