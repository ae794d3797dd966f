use Rattle.std.proofs.Common.{◌≡◌, ◌∷◌, ◌∙◌, ap, sym, length, arith}
use Rattle.std.specs.Vec.Iter.{into_iter_items}
use Rattle.std.proofs.lemmas.List.{nil_from_length}
use Rattle.pz_tree.specs.devices.Wires.{IsReceivedOver}
use Rattle.pz_tree.proofs.Moved.{none_yet, one_more, all_moved}
use Rattle.pz_tree.proofs.offering.all_received_over.Goals as goal

pub loop-receive-init : goal.loop-receive-init
loop-receive-init c = record {
  counted = search (arith, c.into_iter-receive-iterator.ensures);
  over = none_yet (IsReceivedOver c.args.net.now c.args.process) c.args.receives.items _ _ c.in_ok-offers.ensures.items c.into_iter-receive-iterator.ensures.into_iter_gives.0;
}

pub loop-receive-preserved : goal.loop-receive-preserved
loop-receive-preserved c =
    let steps : into_iter_items c.loop-receive.receive-iterator ≡ c.in-Some.receive ∷ into_iter_items c.next.new.self = c.in-Some.ensures.steps.0 in
    record {
      counted = let was = c.loop-receive.invariant.counted in let gone = c.in-Some.ensures.steps.1 in let short = ap length steps in omega arith;
      over = one_more (IsReceivedOver c.args.net.now c.args.process) c.args.receives.items (into_iter_items c.loop-receive.receive-iterator) (into_iter_items c.next.new.self) c.loop-receive.offers.items c.push.new.self.items c.in-Some.receive c.received_over.result
          steps c.in_ok-push.ensures.items c.received_over.ensures c.loop-receive.invariant.over;
    }

pub returns : goal.returns
returns c =
    let none = nil_from_length _ (sym c.loop-receive.invariant.counted ∙ c.in-None.ensures.steps.0) in
    all_moved (IsReceivedOver c.args.net.now c.args.process) c.args.receives.items _ c.loop-receive.offers.items none c.loop-receive.invariant.over
