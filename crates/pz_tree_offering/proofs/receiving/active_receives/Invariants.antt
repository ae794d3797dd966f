use Rattle.std.proofs.Common.{◌≡◌, ℕ, List, length}
use Rattle.std.specs.Vec.Iter.{into_iter_items, into_iter_len}
use Rattle.pz_nodes.specs.Arena.{find}
use Rattle.pz_tree_nodes.specs.pz_rules.Settings.{Context}
use Rattle.pz_tree_nodes.specs.pz_rules.Terms.{Term}
use Rattle.pz_tree_nodes.specs.pz_rules.devices.Walk as walk
use Rattle.pz_tree_nodes.specs.pz_rules.devices.Walk.{Noted, received_by}
use Rattle.pz_tree_nodes.specs.Listing.{AreOf}
use Rattle.pz_tree_offering.specs.Offers.{IsReceive}
use Rattle.pz_tree_offering.proofs.Each.{SoFar}
use Rattle.pz_tree_offering.proofs.receiving.active_receives.Given as goal

abbrev pub invariant-loop-part : goal.invariant-loop-part
invariant-loop-part g l = record {
  counted : into_iter_len l.part-iterator ≡ length (into_iter_items l.part-iterator);
  receives : (a : Context) (f : ℕ) (t : Term) (ns : List (Noted walk.ActiveReceive))
      → AreOf a (find l.nodes) (λ g. received_by) f t (into_iter_items l.initial.part-iterator) ns
      → SoFar a (find l.nodes) (λ g. received_by) f t (IsReceive t) ns l.receives.items (into_iter_items l.part-iterator);
}
