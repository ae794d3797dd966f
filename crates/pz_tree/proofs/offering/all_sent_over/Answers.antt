use Rattle.std.proofs.Common.{◌≡◌, ◌∷◌, ◌∙◌, ap, sym, length, arith}
use Rattle.std.specs.Vec.Iter.{into_iter_items}
use Rattle.std.proofs.lemmas.List.{nil_from_length}
use Rattle.pz_tree.specs.devices.Wires.{IsSentOver}
use Rattle.pz_tree.proofs.Moved.{none_yet, one_more, all_moved}
use Rattle.pz_tree.proofs.offering.all_sent_over.Goals as goal

pub loop-send-init : goal.loop-send-init
loop-send-init c = record {
  counted = search (arith, c.into_iter-send-iterator.ensures);
  over = none_yet (IsSentOver c.args.net.now c.args.process) c.args.sends.items _ _ c.in_ok-offers.ensures.items c.into_iter-send-iterator.ensures.into_iter_gives.0;
}

pub loop-send-preserved : goal.loop-send-preserved
loop-send-preserved c =
    let steps : into_iter_items c.loop-send.send-iterator ≡ c.in-Some.send ∷ into_iter_items c.next.new.self = c.in-Some.ensures.steps.0 in
    record {
      counted = let was = c.loop-send.invariant.counted in let gone = c.in-Some.ensures.steps.1 in let short = ap length steps in omega arith;
      over = one_more (IsSentOver c.args.net.now c.args.process) c.args.sends.items (into_iter_items c.loop-send.send-iterator) (into_iter_items c.next.new.self) c.loop-send.offers.items c.push.new.self.items c.in-Some.send c.sent_over.result
          steps c.in_ok-push.ensures.items c.sent_over.ensures c.loop-send.invariant.over;
    }

pub returns : goal.returns
returns c =
    let none = nil_from_length _ (sym c.loop-send.invariant.counted ∙ c.in-None.ensures.steps.0) in
    all_moved (IsSentOver c.args.net.now c.args.process) c.args.sends.items _ c.loop-send.offers.items none c.loop-send.invariant.over
