use Rattle.std.proofs.Common.{◌≡◌, ◌++◌, length}
use Rattle.std.specs.List.{All, filter_map}
use Rattle.std.specs.Vec.Iter.{into_iter_items, into_iter_len}
use Rattle.pz_classes_code.specs.pz_syntax.Classes.{ModelTree}
use Rattle.pz_term_enabled.specs.devices.Adding.{receiver_of}
use Rattle.pz_term_enabled.specs.devices.Seen.{Wired, HasPort, wire_at}
use Rattle.pz_term_enabled.proofs.adding.add_receivers.Given as goal

abbrev pub invariant-loop-receiving : goal.invariant-loop-receiving
invariant-loop-receiving l = record {
  counted : into_iter_len l.receiving-iterator ≡ length (into_iter_items l.receiving-iterator);
  left : (m : ModelTree) (wired : Wired m l.net l.process) → All (λ x. HasPort wired x.port) l.fn.receives.items → All (λ x. HasPort wired x.port) (into_iter_items l.receiving-iterator);
  added : (m : ModelTree) (wired : Wired m l.net l.process) → All (λ x. HasPort wired x.port) l.fn.receives.items
      → l.receivers.items ++ filter_map (receiver_of (wire_at wired) l.process) (into_iter_items l.receiving-iterator) ≡ l.initial.receivers.items ++ filter_map (receiver_of (wire_at wired) l.process) l.fn.receives.items;
}
