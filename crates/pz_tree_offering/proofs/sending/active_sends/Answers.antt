use Rattle.std.proofs.Common.{◌≡◌, ◌∷◌, List, ap, sym, subst, ◌∙◌, length, arith}
use Rattle.std.specs.Vec.Iter.{into_iter_items}
use Rattle.std.proofs.lemmas.List.{nil_from_length}
use Rattle.pz_nodes.specs.Arena.{find}
use Rattle.pz_part_queries.specs.Standpoints.{seen_from}
use Rattle.pz_tree_nodes.specs.pz_rules.devices.Walk.{active_parts, noted, sent_by}
use Rattle.pz_tree_nodes.specs.pz_state.Marks.{Seen}
use Rattle.pz_tree_nodes.specs.declared.found.Part.{Part}
use Rattle.pz_tree_nodes.specs.Listing.{AreOf}
use Rattle.pz_tree_offering.specs.Offers.{IsSend}
use Rattle.pz_tree_offering.specs.devices.Parts.{SendRule}
use Rattle.pz_tree_offering.proofs.Each.{taken, all_taken}
use Rattle.pz_tree_offering.proofs.Sent.{send_taken}
use Rattle.pz_tree_offering.proofs.sending.active_sends.Goals as goal

pub loop-part-preserved : goal.loop-part-preserved
loop-part-preserved g c =
    let x = c.in-Some.part in
    let left = into_iter_items c.loop-part.part-iterator in
    let rest = into_iter_items c.next.new.self in
    let steps : left ≡ x ∷ rest = c.in-Some.ensures.steps.0 in
    let n = find c.args.nodes.now in
    let old = c.loop-part.sends.items in
    let new = c.add_send.new.sends.items in
    record {
      counted = let was = c.loop-part.invariant.counted in let gone = c.in-Some.ensures.steps.1 in let short = ap length steps in omega arith;
      state = c.in_ok-add_send.ensures.state ∙ c.loop-part.invariant.state;
      sends = λ m class known f t ns are.
          let a = seen_from m c.args.here.now class c.args.state.now.held in
          taken a n (sent_by a) f t IsSend ns old new x left rest steps
          (send_taken a n f t x old new
          (subst (λ (s : Seen). SendRule (seen_from m c.args.here.now class s.held) n x old new) c.loop-part.invariant.state (c.in_ok-add_send.ensures.adds m class known)))
          (c.loop-part.invariant.sends m class known f t ns are);
    }

pub returns-clause-sends : goal.returns-clause-sends
returns-clause-sends g c = λ m class known t right low.
    let a = seen_from m c.args.here.now class c.args.state.now.held in
    let n = find c.args.nodes.now in
    let f = c.args.root.frame.0 in
    let ns = noted (sent_by a) (active_parts a f t) in
    let none = nil_from_length _ (sym c.loop-part.invariant.counted ∙ c.in-None.ensures.steps.0) in
    let listed : AreOf a n (sent_by a) f t (into_iter_items c.into_iter-part-iterator.result) ns = subst (λ (xs : List Part). AreOf a n (sent_by a) f t xs ns) (sym c.into_iter-part-iterator.ensures.into_iter_gives.0) (c.in_ok-parts.ensures a t right low) in
    all_taken a n (sent_by a) f t IsSend ns c.loop-part.sends.items (into_iter_items c.loop-part.part-iterator) none (c.loop-part.invariant.sends m class known f t ns listed)
