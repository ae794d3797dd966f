use Rattle.std.proofs.Common.{ap, subst}
use Rattle.std.proofs.lemmas.Result.{IfOk-weaker}
use Rattle.pz_bind.specs.pz_classes.CheckedView.{checked_model}
use Rattle.pz_nodes.specs.Arena.{find}
use Rattle.pz_rules.specs.declared.limits.Limits.{Limits}
use Rattle.pz_rules.specs.Settings.{Context}
use Rattle.pz_tree_offering.specs.Offers.{SendsRule}
use Rattle.pz_tree.specs.Asking.{AreSendOffers}
use Rattle.pz_tree.specs.Trees.{at_in, term_in}
use Rattle.pz_tree.specs.devices.Wires.{AreSentOver}
use Rattle.pz_tree.proofs.Started.{net_has}
use Rattle.pz_tree.proofs.Offered.{its_sends}
use Rattle.pz_tree.proofs.tree.Tree.sends.Goals as goal

pub all_sent_over-requires : goal.all_sent_over-requires
all_sent_over-requires c = net_has (checked_model c.args.checked.now) c.args.net.now c.args.self.now c.requires.fresh c.requires.of_model

pub returns-clause-offers : goal.returns-clause-offers
returns-clause-offers c = λ fresh known fits.
    let m = checked_model c.args.checked.now in
    let t = c.args.self.now in
    let root = c.spot-root in
    let here = c.standpoint-here in
    let sends = c.in_ok-sends.sends.items in
    let high = here.result.limits.height in
    IfOk-weaker c.all_sent_over.result (λ xs. AreSentOver c.args.net.now t.process xs.items sends) (λ xs. AreSendOffers (at_in m t) (term_in t) xs.items)
    (λ xs over.
    its_sends m t fresh c.args.net.now known fits c.active_parts_fit.ensures.law
    root.result.key root.result.frame.0 root.result.clock high root.ensures.key root.ensures.frame root.ensures.clock (ap (λ (l : Limits). l.height) here.ensures.limits)
    c.walks_list_what_is_active.ensures.sends xs.items sends over
    (subst (λ (a : Context). SendsRule a (find t.nodes) root.result.key root.result.frame.0 root.result.clock high sends) (here.ensures.seen m)
    (c.in_ok-sends.ensures.sends m t.class.0 here.ensures.knows))) c.all_sent_over.ensures
