use Rattle.std.proofs.Common.{◌≡◌, ◌∷◌, List, ap, sym, subst, ◌∙◌, length, arith}
use Rattle.std.specs.Vec.Iter.{into_iter_items}
use Rattle.std.proofs.lemmas.List.{nil_from_length}
use Rattle.pz_nodes.specs.Arena.{find}
use Rattle.pz_tree_nodes.specs.pz_rules.devices.Walk.{active_parts, noted, received_by}
use Rattle.pz_tree_nodes.specs.declared.found.Part.{Part}
use Rattle.pz_tree_nodes.specs.Listing.{AreOf}
use Rattle.pz_tree_offering.specs.Offers.{IsReceive}
use Rattle.pz_tree_offering.proofs.Each.{taken, all_taken}
use Rattle.pz_tree_offering.proofs.Received.{receive_taken}
use Rattle.pz_tree_offering.proofs.receiving.active_receives.Goals as goal

pub loop-part-preserved : goal.loop-part-preserved
loop-part-preserved g c =
    let x = c.in-Some.part in
    let left = into_iter_items c.loop-part.part-iterator in
    let rest = into_iter_items c.next.new.self in
    let steps : left ≡ x ∷ rest = c.in-Some.ensures.steps.0 in
    let n = find c.args.nodes.now in
    let old = c.loop-part.receives.items in
    let new = c.add_receive.new.receives.items in
    record {
      counted = let was = c.loop-part.invariant.counted in let gone = c.in-Some.ensures.steps.1 in let short = ap length steps in omega arith;
      receives = λ a f t ns are.
          taken a n (λ z. received_by) f t (IsReceive t) ns old new x left rest steps (receive_taken a n f t x old new c.in_ok-add_receive.ensures) (c.loop-part.invariant.receives a f t ns are);
    }

pub returns : goal.returns
returns g c = λ a t right low.
    let n = find c.args.nodes.now in
    let f = c.args.root.frame.0 in
    let ns = noted (λ z. received_by) (active_parts a f t) in
    let none = nil_from_length _ (sym c.loop-part.invariant.counted ∙ c.in-None.ensures.steps.0) in
    let listed : AreOf a n (λ z. received_by) f t (into_iter_items c.into_iter-part-iterator.result) ns = subst (λ (xs : List Part). AreOf a n (λ z. received_by) f t xs ns) (sym c.into_iter-part-iterator.ensures.into_iter_gives.0) (c.in_ok-parts.ensures a t right low) in
    all_taken a n (λ z. received_by) f t (IsReceive t) ns c.loop-part.receives.items (into_iter_items c.loop-part.part-iterator) none (c.loop-part.invariant.receives a f t ns listed)
