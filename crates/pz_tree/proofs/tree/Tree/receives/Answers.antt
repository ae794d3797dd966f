use Rattle.std.proofs.Common.{refl}
use Rattle.std.proofs.lemmas.Result.{IfOk-weaker}
use Rattle.pz_bind.specs.pz_classes.CheckedView.{checked_model}
use Rattle.pz_tree.specs.Asking.{AreReceiveOffers}
use Rattle.pz_tree.specs.Trees.{at_in, term_in}
use Rattle.pz_tree.specs.devices.Wires.{AreReceivedOver}
use Rattle.pz_tree.proofs.Started.{net_has}
use Rattle.pz_tree.proofs.Offered.{its_receives}
use Rattle.pz_tree.proofs.tree.Tree.receives.Goals as goal

pub all_received_over-requires : goal.all_received_over-requires
all_received_over-requires c = net_has (checked_model c.args.checked.now) c.args.net.now c.args.self.now c.requires.fresh c.requires.of_model

pub returns : goal.returns
returns c = record {
  offers = λ fresh known fits.
      let m = checked_model c.args.checked.now in
      let t = c.args.self.now in
      let root = c.spot-root in
      let receives = c.in_ok-receives.receives.items in
      IfOk-weaker c.all_received_over.result (λ xs. AreReceivedOver c.args.net.now t.process xs.items receives) (λ xs. AreReceiveOffers (at_in m t) (term_in t) xs.items)
      (λ xs over.
      its_receives m t fresh c.args.net.now known fits c.active_parts_fit.ensures.law
      root.result.key root.result.frame.0 root.result.clock t.limits.height root.ensures.key root.ensures.frame root.ensures.clock refl
      c.walks_list_what_is_active.ensures.receives xs.items receives over c.in_ok-receives.ensures) c.all_received_over.ensures;
}
