use Rattle.std.proofs.Common.{◌≡◌, ℕ, List, length}
use Rattle.std.specs.Vec.Iter.{into_iter_items, into_iter_len}
use Rattle.pz_nodes.specs.Arena.{find}
use Rattle.pz_part_queries.specs.Standpoints.{Knows, seen_from}
use Rattle.pz_tree_nodes.specs.pz_rules.Terms.{Term}
use Rattle.pz_tree_nodes.specs.pz_rules.devices.Walk as walk
use Rattle.pz_tree_nodes.specs.pz_rules.devices.Walk.{Noted, sent_by}
use Rattle.pz_classes_code.specs.pz_syntax.Classes.{ModelTree}
use Rattle.pz_tree_nodes.specs.Listing.{AreOf}
use Rattle.pz_tree_offering.specs.Offers.{IsSend}
use Rattle.pz_tree_offering.proofs.Each.{SoFar}
use Rattle.pz_tree_offering.proofs.sending.active_sends.Given as goal

abbrev pub invariant-loop-part : goal.invariant-loop-part
invariant-loop-part g l = record {
  counted : into_iter_len l.part-iterator ≡ length (into_iter_items l.part-iterator);
  state : l.state ≡ l.initial.state;
  sends : (m : ModelTree) (class : ℕ) → Knows m l.here → (f : ℕ) (t : Term) (ns : List (Noted walk.ActiveSend))
      → AreOf (seen_from m l.here class l.initial.state.held) (find l.nodes) (sent_by (seen_from m l.here class l.initial.state.held)) f t (into_iter_items l.initial.part-iterator) ns
      → SoFar (seen_from m l.here class l.initial.state.held) (find l.nodes) (sent_by (seen_from m l.here class l.initial.state.held)) f t IsSend ns l.sends.items (into_iter_items l.part-iterator);
}
